use Rattle.std.proofs.Common.{◌≡◌, map, take}
use Rattle.hq_generator.specs.Tables.{row_column}
use Rattle.hq_generator.proofs.catalog.columns.Given as goal

-- the columns of the rows so far
abbrev pub invariant-loop-name : goal.invariant-loop-name
invariant-loop-name l = l.columns ≡ map row_column (take l.name-index l.rows)
