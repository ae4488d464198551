-- The relationships of the tracked tables (Hasura v2, metadata format: ObjectRelationship, ArrayRelationship).
use Rattle.std.specs.Prelude.{ℕ, List, [], ◌∷◌, zip, Bool, true, false, not, ◌&&◌, bytes_eq, codes, Result, Ok}
use Rattle.hq_base.specs.Due.{◌>>=◌}
use Rattle.hq_base.specs.Json.{JsonTree}
use Rattle.hq_model.specs.Meta.{TrackedTree, MetaTree}
use Rattle.hq_model.specs.declared.meta.Rel.{Rel}
use Rattle.hq_model.specs.declared.table.Table.{Table}
use Rattle.hq_load_meta_tables.specs.declared.field.Field.TheVariants as field
use Rattle.hq_load_meta_tables.specs.declared.refusal.MetaRefusal.{MetaRefusal}
use Rattle.hq_load_meta_tables.specs.Each.{each, each_after}
use Rattle.hq_load_meta.specs.Linked.{link_at}
use Rattle.hq_load_meta_tables.specs.Tracked.{tables_of}
use Rattle.hq_load_meta_tables.specs.Node.{checked, at, object_at, member_at, free_name_at, object_member, entries_member}

-- a relationship's name is a free name, that of an array one also not `_`: its field for aggregates would be `__aggregate`
unfoldable pub rel_name_at : (many : Bool) → (path : List ℕ) → JsonTree → Result (List ℕ) MetaRefusal
rel_name_at many path j = do
  name ← free_name_at path j
  _ ← checked path (not (many && bytes_eq name (codes "_")))
  Ok name

-- the relationship at a path, of table t: an array one where it is many
unfoldable pub rel_at : List Table → MetaTree → (t : ℕ) → (many : Bool) → (path : List ℕ) → JsonTree → Result Rel MetaRefusal
rel_at tables m t many path j = do
  object ← object_at path j
  text ← member_at path object field.Name
  name ← rel_name_at many (at path field.Name) text
  using ← object_member path object field.Using
  link ← link_at tables m t many (at path field.Using) using
  Ok (record { name = name; remote = link.remote; pairs = link.pairs; many = many })

-- the object relationships of an entry at a path, with the place of its table
unfoldable pub objects_at : List Table → MetaTree → (path : List ℕ) → ℕ × JsonTree → Result (List Rel) MetaRefusal
objects_at tables m path entry = do
  list ← entries_member path entry.1 field.ObjectRelationships
  each (rel_at tables m entry.0 false) (at path field.ObjectRelationships) list

-- the relationships of an entry at a path, with the place of its table: object ones first
unfoldable pub rels_at : List Table → MetaTree → (path : List ℕ) → ℕ × JsonTree → Result (List Rel) MetaRefusal
rels_at tables m path entry = do
  objects ← objects_at tables m path entry
  list ← entries_member path entry.1 field.ArrayRelationships
  each_after (λ before. rel_at tables m entry.0 true) (at path field.ArrayRelationships) 0 objects list

-- tracked tables beside what their entries give
abbrev pub rels_beside : List TrackedTree → List (List Rel) → List TrackedTree
rels_beside (k ∷ ks) (rels ∷ more) = record k { rels = rels } ∷ rels_beside ks more
rels_beside _ _ = []

abbrev pub with_rels : MetaTree → List (List Rel) → MetaTree
with_rels m rels = record m { tracked = rels_beside m.tracked rels }

-- the tables, whose entries stand in the list at a path, with their relationships
unfoldable pub related : List Table → (path : List ℕ) → List JsonTree → MetaTree → Result MetaTree MetaRefusal
related tables path js m = do
  rels ← each (rels_at tables m) path (zip (tables_of m) js)
  Ok (with_rels m rels)
