use Rattle.std.proofs.Common.{◌≡◌, ◌++◌, map, drop, flat_map}
use Rattle.csv.specs.Writing.{default_writer, row_text}
use Rattle.hq_laws_written.specs.Tables.Written.{field_of, file_of}
use Rattle.hq_copy_text.proofs.tables.file_of.Given as goal

-- the rows so far, and then those that are left
abbrev pub invariant-loop-at : goal.invariant-loop-at
invariant-loop-at l =
    l.file ++ flat_map (row_text default_writer) (map (map field_of) (drop l.at l.rows)) ≡ file_of l.table l.rows
