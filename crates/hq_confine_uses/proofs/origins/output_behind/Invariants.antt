use Rattle.std.proofs.Common.{◌≡◌, drop, map}
use Rattle.hq_confine_rules.specs.Origins.{output_named}
use Rattle.hq_confine_uses.specs.Views.{output_view}
use Rattle.hq_confine_uses.proofs.origins.output_behind.Given as goal

-- the outputs that are left tell what all do
abbrev pub invariant-loop-output : goal.invariant-loop-output
invariant-loop-output l = output_named (map output_view (drop l.output-index l.outputs)) l.name ≡ output_named (map output_view l.outputs) l.name
