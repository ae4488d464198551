use Rattle.std.proofs.Common.{◌≡◌, drop}
use Rattle.std.specs.List.{list_any}
use Rattle.hq_confine_rules.specs.Members.{is_whole_link}
use Rattle.hq_confine_members.specs.Views.{equation_view, preds_view}
use Rattle.hq_confine_uses.specs.Views.{rules_schema}
use Rattle.hq_confine_members.proofs.links.is_some_link.Given as goal

-- those that are left tell what all do
abbrev pub invariant-loop-rel : goal.invariant-loop-rel
invariant-loop-rel l =
    let test = is_whole_link (rules_schema l.rules) (preds_view l.all) l.scans.table l.scans.own_table l.scans.alias.now l.scans.own_alias.now (equation_view l.equation) in
    list_any test (drop l.rel-index l.rel-items) ≡ list_any test l.rel-items
