use Rattle.std.proofs.Common.{◌≡◌, drop, map}
use Rattle.std.specs.List.{list_all}
use Rattle.hq_sql_tree.specs.View.{out_view}
use Rattle.hq_sql_tree.specs.Form.{out_fits}
use Rattle.hq_sql_tree.proofs.representable.outs_fit.Given as goal

-- those that are left fit exactly where all do
abbrev pub invariant-loop-out : goal.invariant-loop-out
invariant-loop-out l = list_all out_fits (map out_view (drop l.out-index l.out-items)) ≡ list_all out_fits (map out_view l.out-items)
