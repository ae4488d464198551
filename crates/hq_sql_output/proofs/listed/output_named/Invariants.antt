use Rattle.std.proofs.Common.{◌≡◌, map, drop}
use Rattle.hq_sql_tree.specs.View.{out_view}
use Rattle.hq_sql_output.specs.Listed.{output_in}
use Rattle.hq_sql_output.proofs.listed.output_named.Given as goal

-- the outputs that are left have the one that all have
abbrev pub invariant-loop-out : goal.invariant-loop-out
invariant-loop-out l = output_in (map out_view (drop l.out-index l.outs)) l.name ≡ output_in (map out_view l.outs) l.name
