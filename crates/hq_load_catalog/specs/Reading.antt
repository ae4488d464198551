-- What a catalog file gives: its tables, or the first refusal. The tests come in this order, each over the whole file
-- before the next: JSON, form, how many tables and columns, lengths of names, repeated names, empty keys, and what
-- keys and foreign keys name.
use Rattle.std.specs.Prelude.{ℕ, List, Result, Ok, Err}
use Rattle.hq_base.specs.Due.{◌>>=◌}
use Rattle.hq_base.specs.Json.{JsonTree}
use Rattle.hq_base.specs.Body.{body_of}
use Rattle.hq_base.specs.declared.body.JsonRefusal.{JsonRefusal}
use Rattle.hq_model.specs.declared.table.Table.{Table}
use Rattle.hq_load_catalog.specs.declared.refusal.CatalogRefusal.{CatalogRefusal}
use Rattle.hq_load_catalog.specs.declared.refusal.CatalogRefusal.TheVariants.{NotJson}
use Rattle.hq_load_catalog.specs.Passed.{passed}
use Rattle.hq_load_catalog.specs.Shape.{written_tables}
use Rattle.hq_load_catalog.specs.Limits.{too_many, wrong_length}
use Rattle.hq_load_catalog.specs.Repeats.{repeated, no_key}
use Rattle.hq_load_catalog.specs.Resolved.{resolved}

-- the tables of a JSON value
unfoldable pub catalog_of : JsonTree → Result (List Table) CatalogRefusal
catalog_of j = do
  tables ← written_tables j
  _ ← passed (too_many tables)
  _ ← passed (wrong_length tables)
  _ ← passed (repeated tables)
  _ ← passed (no_key tables)
  resolved tables

-- any cause that a body is no JSON of whole numbers makes it no JSON here
abbrev pub json_in : Result JsonTree JsonRefusal → Result JsonTree CatalogRefusal
json_in (Ok j) = Ok j
json_in (Err e) = Err NotJson

-- the tables of a file
unfoldable pub catalog_due : (bytes : List ℕ) → Result (List Table) CatalogRefusal
catalog_due bytes = json_in (body_of bytes) >>= catalog_of
