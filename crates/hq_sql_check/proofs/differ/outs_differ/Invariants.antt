use Rattle.std.proofs.Common.{◌≡◌, take, map}
use Rattle.hq_sql_tree.specs.View.{out_view}
use Rattle.hq_sql_check.specs.Scopes.{texts}
use Rattle.hq_sql_check.proofs.differ.outs_differ.Given as goal

-- those so far
abbrev pub invariant-loop-out : goal.invariant-loop-out
invariant-loop-out l = texts l.names.items ≡ map (λ o. o.name) (map out_view (take l.out-index l.out-items))
