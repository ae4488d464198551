-- A written catalog's names are read as the places that they stand for.
use Rattle.std.proofs.Common.{◌≡◌, ◌∙◌, ℕ, ◌==◌, nat_lt, ◌&&◌, List, [], ◌∷◌, length, map, Bool, true, Option, Some, None, Ok, ok_or, bytes_eq, slice_get, refl, ap, eq-eqb}
use Rattle.std.specs.List.{list_all, zip}
use Rattle.std.specs.Cmp.Lexicographic.{bytes_decides}
use Rattle.std.proofs.lemmas.Bool.{and_parts, and_from}
use Rattle.hq_base.specs.Lists.{Each, all_differ}
use Rattle.hq_base.specs.Path.{top_path}
use Rattle.hq_base.proofs.Lists.{each_weaken}
use Rattle.hq_model.specs.Catalog as catalog
use Rattle.hq_model.specs.Catalog.{type_of, can_pair, pairs_fit, pairs_fit_with, is_foreign_key}
use Rattle.hq_model.specs.declared.table.Column.{Column}
use Rattle.hq_model.specs.declared.table.ForeignKey.{ForeignKey}
use Rattle.hq_model.specs.declared.table.Table.{Table}
use Rattle.hq_load_catalog.specs.Each.{each}
use Rattle.hq_load_catalog.specs.Node.{at}
use Rattle.hq_load_catalog.specs.Resolved.{column_named, key_column_named, table_named, columns_at, can_refer, foreign_key_of, table_of, resolved}
use Rattle.hq_load_catalog.specs.Resolved as reading
use Rattle.hq_load_catalog.specs.declared.field.Field.TheVariants as field
use Rattle.hq_load_catalog.specs.declared.refusal.CatalogRefusal.TheVariants.{Shape}
use Rattle.hq_load_catalog.specs.declared.written.WrittenForeignKey.{WrittenForeignKey}
use Rattle.hq_load_catalog.specs.declared.written.WrittenTable.{WrittenTable}
use Rattle.hq_laws_written.specs.Catalog.Written.{name_at, schema_in, table_name_in, columns_in}
use Rattle.hq_laws_written.proofs.Catalog.Lists.{position_of, differ_weaken, differ_map, slice_get_map}
use Rattle.hq_laws_written.proofs.Catalog.Places.{same_name, IsPlace, IsKeyPlace, differ, named_place, named_key, key_places, own_places, remote_places, as_many, zipped, settled_all}
use Rattle.hq_laws_written.proofs.Catalog.Shapes.{each_back, itself, written, written_key}
use Rattle.hq_laws_written.proofs.Catalog.Tests.{IsGood}

-- ---- columns

-- names of columns that are there are read as their places
columns_named : (columns : List Column) (path : List ℕ) (ks : List ℕ) → differ columns ≡ true → Each (IsPlace columns) ks → each (column_named columns) path (map (name_at columns) ks) ≡ Ok ks
columns_named columns path ks h there =
    each_back (column_named columns) (name_at columns) (λ k. k) path 0 ks
    (each_weaken (IsPlace columns) (λ k. (p : List ℕ) → column_named columns p (name_at columns k) ≡ Ok k)
    (λ k is p. named_place columns k p h is) ks there)
    ∙ ap Ok (itself ks)

-- so are those of a key
keys_named : (columns : List Column) (path : List ℕ) (ks : List ℕ) → differ columns ≡ true → Each (IsKeyPlace columns) ks → each (key_column_named columns) path (map (name_at columns) ks) ≡ Ok ks
keys_named columns path ks h there =
    each_back (key_column_named columns) (name_at columns) (λ k. k) path 0 ks
    (each_weaken (IsKeyPlace columns) (λ k. (p : List ℕ) → key_column_named columns p (name_at columns k) ≡ Ok k)
    (λ k is p. named_key columns k p h is) ks there)
    ∙ ap Ok (itself ks)

-- ---- tables

-- two tables of one schema and name
abbrev same_table : WrittenTable → WrittenTable → Bool
same_table w v = bytes_eq w.schema v.schema && bytes_eq w.name v.name

-- such tables have one full name
pub one_name : (t u : Table) → (bytes_eq t.schema u.schema && bytes_eq t.name u.name) ≡ true → bytes_eq (catalog.full_name t) (catalog.full_name u) ≡ true
one_name t u h =
    let p = and_parts _ _ h in
    let schema : t.schema ≡ u.schema = (bytes_decides t.schema u.schema).0 p.0 in
    let name : t.name ≡ u.name = (bytes_decides t.name u.name).0 p.1 in
    let same : catalog.full_name t ≡ catalog.full_name u = cc in
    (bytes_decides (catalog.full_name t) (catalog.full_name u)).1 same

-- written tables differ
tables_differ : (tables : List Table) → all_differ (λ t u. bytes_eq (catalog.full_name t) (catalog.full_name u)) tables ≡ true → all_differ same_table (map (written tables) tables) ≡ true
tables_differ tables h =
    differ_map same_table (written tables) tables
    ∙ differ_weaken (λ (t u : Table). bytes_eq t.schema u.schema && bytes_eq t.name u.name) (λ t u. bytes_eq (catalog.full_name t) (catalog.full_name u)) one_name tables h

-- a table of the catalog is found under its schema and name
table_back : (tables : List Table) (k : ℕ) (u : Table) (path : List ℕ) (key : WrittenForeignKey)
    → all_differ (λ t v. bytes_eq (catalog.full_name t) (catalog.full_name v)) tables ≡ true → slice_get tables k ≡ Some u
    → key.schema ≡ u.schema → key.table ≡ u.name → table_named (map (written tables) tables) path key ≡ Ok k
unfolding table_named
table_back tables k u path key h at schema name =
    let there = slice_get_map (written tables) tables k u at in
    let like : same_table (written tables u) (written tables u) ≡ true = and_from _ _ (same_name u.schema) (same_name u.name) in
    rw (schema, name) (ap (λ o. ok_or o (Shape path)) (position_of same_table (map (written tables) tables) k (written tables u) (tables_differ tables h) like there))

-- ---- foreign keys

-- the table that a foreign key refers to, and its columns
remote_of : (tables : List Table) (t : Table) (f : ForeignKey) (o : Option Table) → slice_get tables f.remote ≡ o → pairs_fit_with t o f.columns f.references ≡ true
    → (u : Table) × (slice_get tables f.remote ≡ Some u) × (pairs_fit t u f.columns f.references ≡ true)
remote_of tables t f None e h = cc
remote_of tables t f (Some u) e h = (u, e, h)

-- a foreign key is read as itself
foreign_back : (tables : List Table) (t : Table) (f : ForeignKey) (path : List ℕ) → all_differ (λ v u. bytes_eq (catalog.full_name v) (catalog.full_name u)) tables ≡ true
    → ((k : ℕ) (u : Table) → slice_get tables k ≡ Some u → IsGood tables u) → IsGood tables t → is_foreign_key tables t f ≡ true
    → foreign_key_of (map (written tables) tables) t.columns path (written_key tables t f) ≡ Ok f
unfolding foreign_key_of can_refer
foreign_back tables t f path h all g is =
    let p = and_parts _ _ is in
    let remote = remote_of tables t f (slice_get tables f.remote) refl p.1 in
    let u = remote.0 in
    let ws = map (written tables) tables in
    let key = written_key tables t f in
    let own = columns_named t.columns (at path field.Columns) f.columns g.differ (own_places t u f.columns f.references remote.2) in
    let table = table_back tables f.remote u (at path field.Table) key h remote.1 (ap schema_in remote.1) (ap table_name_in remote.1) in
    let there : columns_at ws f.remote ≡ u.columns = ap reading.columns_in (slice_get_map (written tables) tables f.remote u remote.1) in
    let names : key.references ≡ map (name_at u.columns) f.references = ap (λ o. map (name_at (columns_in o)) f.references) remote.1 in
    let others : each (column_named (columns_at ws f.remote)) (at path field.References) key.references ≡ Ok f.references =
    rw (there, names) (columns_named u.columns (at path field.References) f.references (all f.remote u remote.1).differ (remote_places t u f.columns f.references remote.2)) in
    let fit :
    (nat_lt 0 (length f.columns) && length f.columns == length f.references
    && list_all (λ q. can_pair (type_of (slice_get t.columns q.0)) (type_of (slice_get (columns_at ws f.remote) q.1)))
    (zip f.columns f.references))
    ≡ true =
    rw there (and_from _ _ (and_from _ _ p.0 (eq-eqb _ _ (as_many t u f.columns f.references remote.2))) (zipped t u f.columns f.references remote.2)) in
    rw (own, table, others, fit) refl

-- ---- tables

foreign_all : (tables : List Table) (t : Table) (fs : List ForeignKey) → all_differ (λ v u. bytes_eq (catalog.full_name v) (catalog.full_name u)) tables ≡ true
    → ((k : ℕ) (u : Table) → slice_get tables k ≡ Some u → IsGood tables u) → IsGood tables t → list_all (is_foreign_key tables t) fs ≡ true
    → Each (λ f. (p : List ℕ) → foreign_key_of (map (written tables) tables) t.columns p (written_key tables t f) ≡ Ok f) fs
foreign_all tables t [] h all g is = tt
foreign_all tables t (f ∷ fs) h all g is =
    let parts = and_parts _ _ is in
    ((λ p. foreign_back tables t f p h all g parts.0), foreign_all tables t fs h all g parts.1)

-- a table is read as itself
whole_table : (tables : List Table) (t : Table) (path : List ℕ) → all_differ (λ v u. bytes_eq (catalog.full_name v) (catalog.full_name u)) tables ≡ true
    → ((k : ℕ) (u : Table) → slice_get tables k ≡ Some u → IsGood tables u) → IsGood tables t
    → table_of (map (written tables) tables) path (written tables t) ≡ Ok t
unfolding table_of
whole_table tables t path h all g =
    let key = keys_named t.columns (at path field.PrimaryKey) t.key g.differ (key_places t.columns t.key g.no_null) in
    let foreign : each (foreign_key_of (map (written tables) tables) t.columns) (at path field.ForeignKeys) (map (written_key tables t) t.foreign) ≡ Ok t.foreign =
    each_back (foreign_key_of (map (written tables) tables) t.columns) (written_key tables t) (λ f. f) (at path field.ForeignKeys) 0
    t.foreign (foreign_all tables t t.foreign h all g g.foreign)
    ∙ ap Ok (itself t.foreign) in
    rw (key, foreign, settled_all t.columns t.key g.differ g.no_null) refl

whole_tables : (tables ts : List Table) → all_differ (λ v u. bytes_eq (catalog.full_name v) (catalog.full_name u)) tables ≡ true
    → ((k : ℕ) (u : Table) → slice_get tables k ≡ Some u → IsGood tables u) → Each (IsGood tables) ts
    → Each (λ t. (p : List ℕ) → table_of (map (written tables) tables) p (written tables t) ≡ Ok t) ts
whole_tables tables [] h all g = tt
whole_tables tables (t ∷ ts) h all g = ((λ p. whole_table tables t p h all g.0), whole_tables tables ts h all g.1)

-- the tables are read as themselves
pub resolved_back : (tables : List Table) → all_differ (λ v u. bytes_eq (catalog.full_name v) (catalog.full_name u)) tables ≡ true
    → ((k : ℕ) (u : Table) → slice_get tables k ≡ Some u → IsGood tables u) → Each (IsGood tables) tables → resolved (map (written tables) tables) ≡ Ok tables
unfolding resolved
resolved_back tables h all g =
    each_back (table_of (map (written tables) tables)) (written tables) (λ t. t) (at top_path field.Tables) 0 tables (whole_tables tables tables h all g) ∙ ap Ok (itself tables)
