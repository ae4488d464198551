-- What a metadata file gives: its tracked tables and inherited roles, or the first refusal. The tests come in this order, each over the whole
-- file before the next: JSON, version, form of the top, how many sources, form of the source, tables and their names,
-- relationships, permissions, inherited roles, and names that stand twice.
use Rattle.std.specs.Prelude.{ℕ, List, [], Result, Ok, Err}
use Rattle.hq_base.specs.Due.{◌>>=◌}
use Rattle.hq_base.specs.Json.{JsonTree}
use Rattle.hq_base.specs.Body.{body_of}
use Rattle.hq_base.specs.declared.body.JsonRefusal.{JsonRefusal}
use Rattle.hq_model.specs.Meta.{MetaTree}
use Rattle.hq_model.specs.Schema.{schema_of}
use Rattle.hq_model.specs.declared.meta.Inherited.{Inherited}
use Rattle.hq_model.specs.declared.table.Table.{Table}
use Rattle.hq_load_meta_names.specs.Repeats.{names_due}
use Rattle.hq_load_meta_names.specs.declared.refusal.NameRefusal.{NameRefusal}
use Rattle.hq_load_meta_tables.specs.declared.refusal.MetaRefusal.{MetaRefusal}
use Rattle.hq_load_meta_tables.specs.declared.refusal.MetaRefusal.TheVariants.{NotJson}
use Rattle.hq_load_meta_tables.specs.Each.{each_after}
use Rattle.hq_load_meta.specs.Inheriting.{inherited_due}
use Rattle.hq_load_meta.specs.Permitted.{permitted}
use Rattle.hq_load_meta.specs.Related.{related}
use Rattle.hq_load_meta_tables.specs.Top.{unwrapped, table_entries, role_entries, tables_path}
use Rattle.hq_load_meta_tables.specs.Refused.{name_refusal}
use Rattle.hq_load_meta_tables.specs.Tracked.{tracked_at}

-- the tables that the entries of the list at a path track, with their names
unfoldable pub named : List Table → (path : List ℕ) → List JsonTree → Result MetaTree MetaRefusal
named tables path js = do
  tracked ← each_after (tracked_at tables) path 0 [] js
  Ok (record { tracked = tracked; inherited = [] })

-- names that stand twice are refused
abbrev pub names_in : Result (Unit {0}) NameRefusal → Result (Unit {0}) MetaRefusal
names_in (Ok u) = Ok u
names_in (Err e) = Err (name_refusal e)

-- a metadata with inherited roles
abbrev pub with_inherited : MetaTree → List Inherited → MetaTree
with_inherited m is = record m { inherited = is }

-- the metadata that the entries of the list at a path give, and those of the inherited roles
unfoldable pub tracked_of : List Table → (path : List ℕ) → (tables_js roles : List JsonTree) → Result MetaTree MetaRefusal
tracked_of tables path js roles = do
  names ← named tables path js
  rels ← related tables path js names
  m ← permitted tables path js rels
  inherited ← inherited_due roles
  _ ← names_in (names_due (schema_of tables m) m path)
  Ok (with_inherited m inherited)

-- the metadata of a JSON value
unfoldable pub meta_of : List Table → JsonTree → Result MetaTree MetaRefusal
meta_of tables j = do
  entries ← table_entries (unwrapped j)
  tracked_of tables (tables_path entries.0) entries.1 (role_entries (unwrapped j))

-- any cause that a body is no JSON of whole numbers makes it no JSON here
abbrev pub json_in : Result JsonTree JsonRefusal → Result JsonTree MetaRefusal
json_in (Ok j) = Ok j
json_in (Err e) = Err NotJson

-- the metadata of a file, over the tables of a catalog
unfoldable pub meta_due : List Table → (bytes : List ℕ) → Result MetaTree MetaRefusal
meta_due tables bytes = json_in (body_of bytes) >>= meta_of tables
