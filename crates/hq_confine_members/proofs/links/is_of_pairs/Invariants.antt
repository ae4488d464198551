use Rattle.std.proofs.Common.{◌≡◌, drop}
use Rattle.std.specs.List.{list_any}
use Rattle.hq_model.specs.declared.meta.Pair.{Pair}
use Rattle.hq_confine_rules.specs.Members.{is_equation_of}
use Rattle.hq_confine_members.specs.Views.{equation_view}
use Rattle.hq_confine_uses.specs.Views.{rules_schema}
use Rattle.hq_confine_members.proofs.links.is_of_pairs.Given as goal

-- those that are left tell what all do
abbrev pub invariant-loop-pair : goal.invariant-loop-pair
invariant-loop-pair l =
    let test = λ (p : Pair). is_equation_of (rules_schema l.rules) l.scans.table l.scans.own_table l.scans.alias.now l.scans.own_alias.now p (equation_view l.equation) in
    list_any test (drop l.pair-index l.pairs) ≡ list_any test l.pairs
