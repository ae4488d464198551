use Rattle.std.proofs.Common.{◌≡◌, map}
use Rattle.std.specs.Vec.Iter.{into_iter_items}
use Rattle.hq_sql_tree.specs.Meaning.{cell_named}
use Rattle.hq_sql_access.specs.View.{named_view, made_view}
use Rattle.hq_sql_access.proofs.row.cell_taken.Given as goal

-- the cells that are left have the one that all have
abbrev pub invariant-loop-named : goal.invariant-loop-named
invariant-loop-named l = cell_named (map named_view (into_iter_items l.named-iterator)) l.name ≡ cell_named (made_view l.fn.made) l.name
