use Rattle.std.proofs.Common.{◌≡◌, drop}
use Rattle.std.specs.List.{list_all, list_any}
use Rattle.hq_model.specs.declared.meta.Pair.{Pair}
use Rattle.hq_confine_rules.specs.Members.{equation, is_for_pair}
use Rattle.hq_confine_members.specs.Views.{preds_view}
use Rattle.hq_confine_uses.specs.Views.{rules_schema}
use Rattle.hq_confine_members.proofs.links.have_pairs.Given as goal

-- those that are left tell what all do
abbrev pub invariant-loop-pair : goal.invariant-loop-pair
invariant-loop-pair l =
    let test = λ (p : Pair). list_any (λ c. is_for_pair (rules_schema l.rules) l.scans.table l.scans.own_table l.scans.alias.now l.scans.own_alias.now p (equation c)) (preds_view l.all) in
    list_all test (drop l.pair-index l.pairs) ≡ list_all test l.pairs
