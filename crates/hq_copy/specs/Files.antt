-- Tables whose files do not give them back.
use Rattle.std.specs.Prelude.{List, ◌∷◌, Option, None}
use Rattle.hq_copy_definition.specs.Refusals.{begins_with_mark, or_else, refused_if, row_refusal}
use Rattle.hq_copy_definition.specs.declared.refusal.CopyRefusal.{CopyRefusal}
use Rattle.hq_copy_definition.specs.declared.refusal.CopyRefusal.TheVariants.{NotWritable}
use Rattle.hq_model.specs.Catalog.{full_name}
use Rattle.hq_model.specs.Database.{Row}
use Rattle.hq_model.specs.declared.table.Table.{Table}

-- a table with its rows
abbrev pub file_of : Table → List Row → Option CopyRefusal
file_of t rows = or_else (refused_if (begins_with_mark t.columns) (NotWritable (full_name t) 0)) (row_refusal (full_name t) 1 rows)

-- several, in their order
abbrev pub files_of : List Table → List (List Row) → Option CopyRefusal
files_of (t ∷ ts) (rows ∷ d) = or_else (file_of t rows) (files_of ts d)
files_of _ _ = None
