use Rattle.std.proofs.Common.{◌≡◌, drop}
use Rattle.hq_model.specs.Permitted.{columns_cmp}
use Rattle.hq_copy_filter.proofs.order.columns_cmp.Given as goal

-- the cells so far are equal, and those of the columns that are left decide
abbrev pub invariant-loop-column : goal.invariant-loop-column
invariant-loop-column l = columns_cmp (drop l.column-index l.columns) l.left l.right ≡ columns_cmp l.columns l.left l.right
