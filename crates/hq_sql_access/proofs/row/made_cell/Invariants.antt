use Rattle.std.proofs.Common.{◌≡◌, map, drop}
use Rattle.hq_sql_tree.specs.Meaning.{cell_named}
use Rattle.hq_sql_access.specs.View.{named_view}
use Rattle.hq_sql_access.proofs.row.made_cell.Given as goal

-- the cells that are left have the one that all have
abbrev pub invariant-loop-named : goal.invariant-loop-named
invariant-loop-named l = cell_named (map named_view (drop l.named-index l.cells)) l.name ≡ cell_named (map named_view l.cells) l.name
