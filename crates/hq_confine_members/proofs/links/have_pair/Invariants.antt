use Rattle.std.proofs.Common.{◌≡◌, drop}
use Rattle.std.specs.List.{list_any}
use Rattle.hq_sql_tree.specs.Tree.{PredTree}
use Rattle.hq_confine_rules.specs.Members.{equation, is_for_pair}
use Rattle.hq_confine_members.specs.Views.{preds_view}
use Rattle.hq_confine_uses.specs.Views.{rules_schema}
use Rattle.hq_confine_members.proofs.links.have_pair.Given as goal

-- those that are left tell what all do
abbrev pub invariant-loop-pred : goal.invariant-loop-pred
invariant-loop-pred l =
    let test = λ (p : PredTree). is_for_pair (rules_schema l.rules) l.scans.table l.scans.own_table l.scans.alias.now l.scans.own_alias.now l.pair (equation p) in
    list_any test (preds_view (drop l.pred-index l.all)) ≡ list_any test (preds_view l.all)
