-- The parts of a copy, each a text: the catalog, the metadata, and the file of each table.
use Rattle.std.specs.Prelude.{ℕ, List, ◌∷◌, length, nat_le, cond, bytes_eq, codes, Option, Some, None, Result, Ok, Err}
use Rattle.hq_base.specs.Compact.{compact}
use Rattle.hq_copy_definition.specs.Copied.{Copied}
use Rattle.hq_model.specs.Catalog.{full_name}
use Rattle.hq_model.specs.Database.{Row}
use Rattle.hq_model.specs.declared.table.Table.{Table}
use Rattle.hq_laws_written.specs.Catalog.Written.{catalog_json}
use Rattle.hq_laws_written.specs.Metadata.Written.{meta_json}
use Rattle.hq_laws_written.specs.Tables.Written.{file_of}
use Rattle.hq_copy_text.specs.declared.refusal.PartRefusal.{PartRefusal}
use Rattle.hq_copy_text.specs.declared.refusal.PartRefusal.TheVariants.{NoSuchPart, TooLarge}

-- the file of the table of this name
abbrev pub table_text : List Table → List (List Row) → (name : List ℕ) → Option (List ℕ)
table_text (t ∷ ts) (rows ∷ d) name = cond (bytes_eq (full_name t) name) (Some (file_of t rows)) (table_text ts d name)
table_text _ _ name = None

-- the text of the part of this name
abbrev pub part_text : Copied → (name : List ℕ) → Option (List ℕ)
part_text c name =
    cond (bytes_eq name (codes "catalog")) (Some (compact (catalog_json c.tables)))
    (cond (bytes_eq name (codes "metadata")) (Some (compact (meta_json c.tables c.meta))) (table_text c.tables c.rows name))

-- the most bytes of a part, as many as of a file that is read
abbrev pub largest_part : ℕ
largest_part = 268435456

-- the text, where it is one and is not too large
abbrev pub small_enough : Option (List ℕ) → Result (List ℕ) PartRefusal
small_enough None = Err NoSuchPart
small_enough (Some text) = cond (nat_le (length text) largest_part) (Ok text) (Err TooLarge)

abbrev pub part_due : Copied → (name : List ℕ) → Result (List ℕ) PartRefusal
part_due c name = small_enough (part_text c name)
