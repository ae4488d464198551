use Rattle.std.proofs.Common.{length}
use Rattle.hq_compile_lists.proofs.order.+sort_joins.Given as goal

-- the relationships that are left
abbrev pub decreases-sort_joins : goal.decreases-sort_joins
decreases-sort_joins l = length l.through.now
