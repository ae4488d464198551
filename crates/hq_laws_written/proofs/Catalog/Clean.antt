-- A catalog's JSON value can be read back.
use Rattle.std.proofs.Common.{◌≡◌, ℕ, suc, ◌&&◌, List, [], ◌∷◌, ◌++◌, map, Bool, true, false, cond, Option, Some, None, slice_get, refl, arith}
use Rattle.std.specs.List.{list_all}
use Rattle.std.specs.Str.{is_utf8, chars}
use lib.Utf8.{encode}
use Rattle.std.proofs.lemmas.Bool.{and_parts, and_from}
use Rattle.hq_base.specs.Json.{JsonTree, bool, str}
use Rattle.hq_base.specs.Lists.{Each}
use Rattle.hq_base.specs.Types.{catalog_name}
use Rattle.hq_base.specs.declared.value.Ty.{Ty}
use Rattle.hq_base.specs.declared.value.Ty.TheVariants.{Integer, Bigint, Text, Boolean, Uuid, Opaque}
use Rattle.hq_model.specs.declared.table.Column.{Column}
use Rattle.hq_model.specs.declared.table.ForeignKey.{ForeignKey}
use Rattle.hq_model.specs.declared.table.Table.{Table}
use Rattle.hq_load_catalog.specs.Field.{field_name}
use Rattle.hq_load_catalog.specs.declared.field.Field.TheVariants as field
use Rattle.hq_laws_written.specs.Json.Building.{object, list, texts}
use Rattle.hq_laws_written.specs.Json.ReadBack.{IsReadable, is_clean}
use Rattle.hq_laws_written.proofs.Json.Building.{Readable, readable, text_readable, bool_readable, texts_readable, map_readable, object_readable, are_member_names}
use Rattle.hq_laws_written.specs.Catalog.Written.{name_in, name_at, has_of, column_json, schema_in, table_name_in, columns_in, table_ref_members, foreign_members, foreign_json, table_members, table_json, catalog_members, catalog_json, is_clean_column, has_clean_names}
use Rattle.hq_laws_written.proofs.Catalog.Lists.{each_true, at_each}

-- ---- the names of members

column_names : are_member_names (field_name field.Name ∷ field_name field.ColumnType ∷ field_name field.Nullable ∷ []) ≡ true
unfolding field_name is_utf8 chars encode
column_names = refl

opaque_names : are_member_names (field_name field.Name ∷ field_name field.ColumnType ∷ field_name field.Of ∷ field_name field.Nullable ∷ []) ≡ true
unfolding field_name is_utf8 chars encode
opaque_names = refl

ref_names : are_member_names (field_name field.Schema ∷ field_name field.Name ∷ []) ≡ true
unfolding field_name is_utf8 chars encode
ref_names = refl

foreign_names : are_member_names (field_name field.Columns ∷ field_name field.Table ∷ field_name field.References ∷ []) ≡ true
unfolding field_name is_utf8 chars encode
foreign_names = refl

table_names : are_member_names (field_name field.Schema ∷ field_name field.Name ∷ field_name field.Columns ∷ field_name field.PrimaryKey ∷ field_name field.ForeignKeys ∷ []) ≡ true
unfolding field_name is_utf8 chars encode
table_names = refl

top_names : are_member_names (field_name field.Tables ∷ []) ≡ true
unfolding field_name is_utf8 chars encode
top_names = refl

clean_type : (ty : Ty) → is_clean (catalog_name ty) ≡ true
unfolding is_utf8 chars encode
clean_type Integer = refl
clean_type Bigint = refl
clean_type Text = refl
clean_type Boolean = refl
clean_type Uuid = refl
clean_type Opaque = refl

clean_nothing : is_clean [] ≡ true
unfolding is_utf8 chars encode
clean_nothing = refl

-- ---- the parts

-- the columns' names are clean
abbrev pub CleanColumns : List Column → Type 0
CleanColumns columns = list_all is_clean_column columns ≡ true

-- and the table's
abbrev pub clean_table : Table → Bool
clean_table t = is_clean t.schema && is_clean t.name && list_all is_clean_column t.columns

pub name_clean : (columns : List Column) (k : ℕ) → CleanColumns columns → is_clean (name_at columns k) ≡ true
name_clean columns k h =
    let go : (o : Option Column) → slice_get columns k ≡ o → is_clean (name_in o) ≡ true = elim [
      | None ↦ λ e. clean_nothing
      | Some c ↦ λ e. (and_parts _ _ (at_each (λ (d : Column). is_clean_column d ≡ true) columns (each_true is_clean_column columns h) k c e)).0
    ] in
    go (slice_get columns k) refl

pub names_clean : (columns : List Column) (ks : List ℕ) → CleanColumns columns → list_all is_clean (map (name_at columns) ks) ≡ true
names_clean columns [] h = refl
names_clean columns (k ∷ ks) h = and_from _ _ (name_clean columns k h) (names_clean columns ks h)

-- the members of a column, with its type of PostgreSQL or without
abbrev members_of : Column → Bool → List (List ℕ × JsonTree)
members_of c b =
    (field_name field.Name, str c.name) ∷ (field_name field.ColumnType, str (catalog_name c.ty))
    ∷ (cond b ((field_name field.Of, str c.of) ∷ []) [] ++ (field_name field.Nullable, bool c.nullable) ∷ [])

column_readable : (c : Column) → is_clean_column c ≡ true → Readable 1 (column_json c)
column_readable c h = by (has_of c)
  where
    p : (is_clean c.name ≡ true) × (is_clean c.of ≡ true)
    p = and_parts (is_clean c.name) (is_clean c.of) h

    by : (b : Bool) → Readable 1 (object (members_of c b))
    by true =
        object_readable 0 (members_of c true) opaque_names (
          text_readable 0 c.name p.0,
          (text_readable 0 (catalog_name c.ty) (clean_type c.ty), (text_readable 0 c.of p.1, (bool_readable 0 c.nullable, tt))),
        )
    by false = object_readable 0 (members_of c false) column_names (text_readable 0 c.name p.0, (text_readable 0 (catalog_name c.ty) (clean_type c.ty), (bool_readable 0 c.nullable, tt)))

columns_readable : (columns : List Column) → CleanColumns columns → Each (λ c. Readable 1 (column_json c)) columns
columns_readable [] h = tt
columns_readable (c ∷ cs) h = let p = and_parts _ _ h in (column_readable c p.0, columns_readable cs p.1)

-- what is told of a table is clean, where the table is there and where it is not
pub ref_clean : (o : Option Table) → ((t : Table) → o ≡ Some t → clean_table t ≡ true) → (is_clean (schema_in o) ≡ true) × (is_clean (table_name_in o) ≡ true) × CleanColumns (columns_in o)
ref_clean None h = (clean_nothing, clean_nothing, refl)
ref_clean (Some t) h = let p = and_parts _ _ (h t refl) in let q = and_parts _ _ p.0 in (q.0, q.1, p.1)

foreign_readable : (tables : List Table) (t : Table) (f : ForeignKey) → list_all clean_table tables ≡ true → CleanColumns t.columns → Readable 2 (foreign_json tables t f)
foreign_readable tables t f all own =
    let o = slice_get tables f.remote in
    let remote = ref_clean o (λ u e. at_each (λ (v : Table). clean_table v ≡ true) tables (each_true clean_table tables all) f.remote u e) in
    object_readable 1 (foreign_members tables t f) foreign_names (
      texts_readable 0 (map (name_at t.columns) f.columns) (names_clean t.columns f.columns own),
      (
        object_readable 0 (table_ref_members o) ref_names (text_readable 0 (schema_in o) remote.0, (text_readable 0 (table_name_in o) remote.1, tt)),
        (texts_readable 0 (map (name_at (columns_in o)) f.references) (names_clean (columns_in o) f.references remote.2), tt),
      ),
    )

foreign_all : (tables : List Table) (t : Table) (fs : List ForeignKey) → list_all clean_table tables ≡ true → CleanColumns t.columns → Each (λ f. Readable 2 (foreign_json tables t f)) fs
foreign_all tables t [] all own = tt
foreign_all tables t (f ∷ fs) all own = (foreign_readable tables t f all own, foreign_all tables t fs all own)

deeper : (depth : ℕ) (j : JsonTree) → Readable depth j → Readable (suc depth) j
deeper depth j h = record { clean = h.clean; distinct = h.distinct; shallow = omega (arith, h.shallow) }

table_readable : (tables : List Table) (t : Table) → list_all clean_table tables ≡ true → clean_table t ≡ true → Readable 4 (table_json tables t)
table_readable tables t all h =
    let p = and_parts _ _ h in
    let q = and_parts _ _ p.0 in
    object_readable 3 (table_members tables t) table_names (
      text_readable 3 t.schema q.0,
      (
        text_readable 3 t.name q.1,
        (
          deeper 2 (list (map column_json t.columns)) (map_readable 1 column_json t.columns (columns_readable t.columns p.1)),
          (
            deeper 2 (texts (map (name_at t.columns) t.key)) (deeper 1 (texts (map (name_at t.columns) t.key)) (texts_readable 0 (map (name_at t.columns) t.key) (names_clean t.columns t.key p.1))),
            (map_readable 2 (foreign_json tables t) t.foreign (foreign_all tables t t.foreign all p.1), tt),
          ),
        ),
      ),
    )

tables_readable : (tables ts : List Table) → list_all clean_table tables ≡ true → list_all clean_table ts ≡ true → Each (λ t. Readable 4 (table_json tables t)) ts
tables_readable tables [] all h = tt
tables_readable tables (t ∷ ts) all h = let p = and_parts _ _ h in (table_readable tables t all p.0, tables_readable tables ts all p.1)

-- a catalog of clean names can be read back
pub catalog_readable : (tables : List Table) → has_clean_names tables ≡ true → IsReadable (catalog_json tables)
catalog_readable tables h =
    readable 6 (catalog_json tables) (omega arith)
    (object_readable 5 (catalog_members tables) top_names
    (map_readable 4 (table_json tables) tables (tables_readable tables tables h h), tt))
