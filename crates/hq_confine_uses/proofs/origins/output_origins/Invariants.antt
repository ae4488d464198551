use Rattle.std.proofs.Common.{◌≡◌, take, map}
use Rattle.hq_sql_tree.specs.View.{out_view}
use Rattle.hq_confine_rules.specs.Origins.{output_origins}
use Rattle.hq_confine_uses.specs.Views.{output_view, shapes_view, rules_schema}
use Rattle.hq_confine_uses.proofs.origins.output_origins.Given as goal

-- those so far
abbrev pub invariant-loop-out : goal.invariant-loop-out
invariant-loop-out l = map output_view l.outputs.items ≡ output_origins (rules_schema l.rules) (shapes_view l.scope) (map out_view (take l.out-index l.out-items))
