-- What a written catalog has the form of: its tables, by names.
use Rattle.std.proofs.Common.{◌≡◌, ◌∙◌, ℕ, ◌+◌, ◌==◌, nat_lt, List, [], ◌∷◌, ◌++◌, length, map, Bool, true, false, cond, not, Some, Result, Ok, Err, slice_get, refl, sym, ap, arith, ne_eqb, ltb-true}
use Rattle.std.proofs.lemmas.Bool.{or_parts, true≢false}
use Rattle.hq_base.specs.Due.{and_then, mapped}
use Rattle.hq_base.specs.Json.{JsonTree, bool, str, elements_of}
use Rattle.hq_base.specs.Lists.{Each}
use Rattle.hq_base.specs.Look.{element_list}
use Rattle.hq_base.specs.Path.{top_path, item_path}
use Rattle.hq_base.specs.Types.{catalog_name, type_named, is_opaque}
use Rattle.hq_base.specs.declared.value.Ty.{Ty}
use Rattle.hq_base.specs.declared.value.Ty.TheVariants.{Integer, Bigint, Text, Boolean, Uuid, Opaque}
use Rattle.hq_base.proofs.Lists.{each_all}
use Rattle.hq_model.specs.declared.table.Column.{Column}
use Rattle.hq_model.specs.declared.table.ForeignKey.{ForeignKey}
use Rattle.hq_model.specs.declared.table.Table.{Table}
use Rattle.hq_load_catalog.specs.Each.{each, each_from}
use Rattle.hq_load_catalog.specs.Field.{field_name}
use Rattle.hq_load_catalog.specs.Node.{at, object_at, text_at, text_member, list_member, names_member, object_member}
use Rattle.hq_load_catalog.specs.Shape.{type_member, of_absent, of_member, nullable_member, column_at, columns_member, foreign_key_at, foreign_keys_member, table_at, written_tables}
use Rattle.hq_load_catalog.specs.declared.field.Field.TheVariants as field
use Rattle.hq_load_catalog.specs.declared.refusal.CatalogRefusal.{CatalogRefusal}
use Rattle.hq_load_catalog.specs.declared.refusal.CatalogRefusal.TheVariants.{Shape}
use Rattle.hq_load_catalog.specs.declared.written.WrittenForeignKey.{WrittenForeignKey}
use Rattle.hq_load_catalog.specs.declared.written.WrittenTable.{WrittenTable}
use Rattle.hq_laws_written.specs.Json.Building.{object}
use Rattle.hq_laws_written.specs.Json.ReadBack.{in_name_order, elements_in_name_order}
use Rattle.hq_laws_written.proofs.Json.Building.{elements_read}
use Rattle.hq_laws_written.specs.Catalog.Written.{name_at, has_of, column_json, schema_in, table_name_in, columns_in, foreign_json, table_json, catalog_json}
use Rattle.hq_laws_written.proofs.Catalog.Lists.{map_each}

-- ---- arrays

-- items that are each read as what they were written from
pub each_back : {A B C : Type 0} (read : List ℕ → B → Result C CatalogRefusal) (write : A → B) (gives : A → C) (path : List ℕ) (n : ℕ) (xs : List A)
    → Each (λ x. (p : List ℕ) → read p (write x) ≡ Ok (gives x)) xs → each_from read path n (map write xs) ≡ Ok (map gives xs)
each_back read write gives path n [] h = refl
each_back read write gives path n (x ∷ xs) h =
    ap (and_then (λ y. mapped (λ ys. y ∷ ys) (each_from read path (n + 1) (map write xs)))) (h.0 (item_path path n))
    ∙ ap (mapped (λ ys. gives x ∷ ys)) (each_back read write gives path (n + 1) xs h.1)

-- the same of the elements of an array that was read
array_back : {A C : Type 0} (read : List ℕ → JsonTree → Result C CatalogRefusal) (write : A → JsonTree) (gives : A → C) (path : List ℕ) (xs : List A)
    → Each (λ x. (p : List ℕ) → read p (in_name_order (write x)) ≡ Ok (gives x)) xs → each read path (element_list (elements_in_name_order (elements_of (map write xs)))) ≡ Ok (map gives xs)
array_back read write gives path xs h = ap (each read path) (elements_read write xs) ∙ each_back read (λ x. in_name_order (write x)) gives path 0 xs h

pub itself : {A : Type 0} (xs : List A) → map (λ x. x) xs ≡ xs
itself xs = map_each (λ x. x) xs (each_all (λ x. x ≡ x) (λ x. refl) xs)

-- an array of texts
texts_back : (path : List ℕ) (names : List (List ℕ)) → each text_at path (element_list (elements_in_name_order (elements_of (map str names)))) ≡ Ok names
unfolding text_at
texts_back path names = array_back text_at str (λ n. n) path names (each_all (λ n. (p : List ℕ) → text_at p (in_name_order (str n)) ≡ Ok n) (λ n p. refl) names) ∙ ap Ok (itself names)

-- ---- columns

type_back : (ty : Ty) → type_named (catalog_name ty) ≡ Some ty
type_back Integer = refl
type_back Bigint = refl
type_back Text = refl
type_back Boolean = refl
type_back Uuid = refl
type_back Opaque = refl

-- a column that is not opaque may lack the name of PostgreSQL's type
absent_back : (path : List ℕ) (ty : Ty) → is_opaque ty ≡ false → of_absent path ty ≡ Ok []
absent_back path Integer h = refl
absent_back path Bigint h = refl
absent_back path Text h = refl
absent_back path Boolean h = refl
absent_back path Uuid h = refl
absent_back path Opaque h = cc

no_text : (s : List ℕ) → not (length s == 0) ≡ false → s ≡ []
no_text [] h = refl
no_text (b ∷ s) h = let some : (length (b ∷ s) == 0) ≡ false = ne_eqb (length (b ∷ s)) 0 (omega arith) in absurd (true≢false (sym (ap not some) ∙ h))

column_back : (c : Column) (path : List ℕ) → column_at path (in_name_order (column_json c)) ≡ Ok c
unfolding column_at object_at text_member type_member of_member nullable_member field_name
column_back c path = by (has_of c) refl
  where
    by : (b : Bool) → has_of c ≡ b
        → column_at path
        (in_name_order
        (object
        ((field_name field.Name, str c.name) ∷ (field_name field.ColumnType, str (catalog_name c.ty))
        ∷ (cond b ((field_name field.Of, str c.of) ∷ []) [] ++ (field_name field.Nullable, bool c.nullable) ∷ []))))
        ≡ Ok c
    by true e = rw (type_back c.ty) refl
    by false e =
        let parts = or_parts (is_opaque c.ty) (not (length c.of == 0)) e in
        let whole : List ℕ → Result Column CatalogRefusal = λ o. Ok (record c { of = o }) in
        rw (type_back c.ty, absent_back (at path field.Of) c.ty parts.0) (ap whole (sym (no_text c.of parts.1)))

not_none : {E : Type 0} (columns : List Column) (e : E) → nat_lt 0 (length columns) ≡ true → cond (length columns == 0) (Err e) (Ok columns) ≡ Ok columns
not_none columns e h = let some = ltb-true 0 (length columns) h in rw (ne_eqb (length columns) 0 (λ z. omega (arith, z, some))) refl

columns_back : (tables : List Table) (t : Table) (path : List ℕ) → nat_lt 0 (length t.columns) ≡ true → columns_member path (in_name_order (table_json tables t)) ≡ Ok t.columns
unfolding columns_member list_member field_name
columns_back tables t path h =
    let test : List Column → Result (List Column) CatalogRefusal = λ columns. cond (length columns == 0) (Err (Shape (at path field.Columns))) (Ok columns) in
    ap (and_then test)
    (array_back column_at column_json (λ c. c) (at path field.Columns) t.columns
    (each_all (λ c. (p : List ℕ) → column_at p (in_name_order (column_json c)) ≡ Ok c) column_back t.columns)
    ∙ ap Ok (itself t.columns))
    ∙ not_none t.columns (Shape (at path field.Columns)) h

-- ---- foreign keys

-- a foreign key by names
abbrev pub written_key : List Table → Table → ForeignKey → WrittenForeignKey
written_key tables t f =
    let remote = slice_get tables f.remote in
    record { columns = map (name_at t.columns) f.columns; schema = schema_in remote; table = table_name_in remote; references = map (name_at (columns_in remote)) f.references }

foreign_back : (tables : List Table) (t : Table) (f : ForeignKey) (path : List ℕ) → foreign_key_at path (in_name_order (foreign_json tables t f)) ≡ Ok (written_key tables t f)
unfolding foreign_key_at object_at names_member list_member object_member text_member field_name
foreign_back tables t f path =
    let own = map (name_at t.columns) f.columns in
    let remote = slice_get tables f.remote in
    let there = map (name_at (columns_in remote)) f.references in
    ap (and_then (λ columns. and_then
    (λ references. let made : WrittenForeignKey = record
    { columns = columns; schema = schema_in remote; table = table_name_in remote; references = references } in Ok made)
    (each text_at (at path field.References) (element_list (elements_in_name_order (elements_of (map str there))))))) (texts_back (at path field.Columns) own)
    ∙ ap
    (and_then
    (λ references. let made : WrittenForeignKey = record
    { columns = own; schema = schema_in remote; table = table_name_in remote; references = references } in Ok made))
    (texts_back (at path field.References) there)

-- ---- tables

-- a table by names
abbrev pub written : List Table → Table → WrittenTable
written tables t = record { schema = t.schema; name = t.name; columns = t.columns; key = map (name_at t.columns) t.key; foreign = map (written_key tables t) t.foreign }

key_back : (tables : List Table) (t : Table) (path : List ℕ) → names_member path (in_name_order (table_json tables t)) field.PrimaryKey ≡ Ok (map (name_at t.columns) t.key)
unfolding names_member list_member field_name
key_back tables t path = texts_back (at path field.PrimaryKey) (map (name_at t.columns) t.key)

keys_back : (tables : List Table) (t : Table) (path : List ℕ) → foreign_keys_member path (in_name_order (table_json tables t)) ≡ Ok (map (written_key tables t) t.foreign)
unfolding foreign_keys_member field_name
keys_back tables t path =
    array_back foreign_key_at (foreign_json tables t) (written_key tables t) (at path field.ForeignKeys) t.foreign
    (each_all (λ f. (p : List ℕ) → foreign_key_at p (in_name_order (foreign_json tables t f)) ≡ Ok (written_key tables t f))
    (foreign_back tables t) t.foreign)

table_back : (tables : List Table) (t : Table) (path : List ℕ) → nat_lt 0 (length t.columns) ≡ true → table_at path (in_name_order (table_json tables t)) ≡ Ok (written tables t)
unfolding table_at object_at text_member field_name
table_back tables t path some = rw (columns_back tables t path some, key_back tables t path, keys_back tables t path) refl

-- a written catalog has the form of its tables
pub tables_back : (tables : List Table) → Each (λ t. nat_lt 0 (length t.columns) ≡ true) tables → written_tables (in_name_order (catalog_json tables)) ≡ Ok (map (written tables) tables)
unfolding written_tables object_at list_member field_name
tables_back tables h =
    array_back table_at (table_json tables) (written tables) (at top_path field.Tables) tables (backs tables h)
  where
    backs : (ts : List Table) → Each (λ t. nat_lt 0 (length t.columns) ≡ true) ts → Each (λ t. (p : List ℕ) → table_at p (in_name_order (table_json tables t)) ≡ Ok (written tables t)) ts
    backs [] h = tt
    backs (t ∷ ts) h = ((λ p. table_back tables t p h.0), backs ts h.1)
