use Rattle.std.proofs.Common.{◌≡◌, drop, length}
use Rattle.hq_confine_rules.specs.Origins.{same_path}
use Rattle.hq_confine_uses.specs.Views.{texts}
use Rattle.hq_confine_uses.proofs.origins.same_aliases.Given as goal

-- the aliases that are left tell what all do
abbrev pub invariant-loop-at : goal.invariant-loop-at
invariant-loop-at l = record {
  as_long : length l.one ≡ length l.other;
  left : same_path (texts (drop l.at l.one)) (texts (drop l.at l.other)) ≡ same_path (texts l.one) (texts l.other);
}
