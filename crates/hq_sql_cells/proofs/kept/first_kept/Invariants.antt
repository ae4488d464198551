use Rattle.std.proofs.Common.{◌≡◌, ◌++◌}
use Rattle.std.specs.Vec.Iter.{into_iter_items}
use Rattle.hq_base.specs.Lists.{firsts}
use Rattle.hq_sql_cells.specs.Keys.{same_group}
use Rattle.hq_sql_cells.proofs.Fresh.{fresh}
use Rattle.hq_sql_cells.proofs.SeenGroups.{seen_in}
use Rattle.hq_sql_cells.proofs.kept.first_kept.Given as goal

-- what is kept so far, and the first rows of the groups that were not seen yet
abbrev pub invariant-loop-row : goal.invariant-loop-row
invariant-loop-row g l = l.kept.items ++ fresh same_group (seen_in l.groups.keys) (into_iter_items l.row-iterator) ≡ firsts same_group l.fn.rows.items
