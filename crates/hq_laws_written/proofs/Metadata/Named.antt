-- The tracked tables are read with their names.
use Rattle.std.proofs.Common.{◌≡◌, ◌∙◌, ℕ, ◌==◌, ◌&&◌, List, [], length, map, true, false, Some, None, Ok, slice_get, slice_index_or, refl, ap}
use Rattle.std.specs.List.{list_any}
use Rattle.std.proofs.lemmas.Bool.{and_parts}
use Rattle.hq_base.specs.Due.{and_then}
use Rattle.hq_base.specs.Json.{str}
use Rattle.hq_base.specs.Lists.{Each, all_differ}
use Rattle.hq_model.specs.Fits.{are_free_roots}
use Rattle.hq_model.specs.Meta.{TrackedTree, MetaTree}
use Rattle.hq_model.specs.Names.{is_free_name, is_table_name}
use Rattle.hq_model.specs.declared.meta.RootNames.{RootNames}
use Rattle.hq_model.specs.declared.table.Column.{Column}
use Rattle.hq_model.specs.declared.table.Table.{Table}
use Rattle.hq_load_meta_tables.specs.Configured.{table_name_at, table_name_due, column_name_of, column_names_due, root_due, roots_due}
use Rattle.hq_load_meta_tables.specs.Each.{each_after}
use Rattle.hq_load_meta_tables.specs.Field.{field_name}
use Rattle.hq_load_meta_tables.specs.Found.{columns_in, columns_of}
use Rattle.hq_load_meta_tables.specs.Node.{at, object_at, text_at, free_name_at, member_at, named_value}
use Rattle.hq_load_meta_tables.specs.Tracked.{entry_table, configured, tracked_at}
use Rattle.hq_load_meta_tables.specs.declared.field.Field.TheVariants as field
use Rattle.hq_laws_written.specs.Json.Building.{object}
use Rattle.hq_laws_written.specs.Json.ReadBack.{in_name_order}
use Rattle.hq_load_meta.specs.Permitted.{all_columns}
use Rattle.hq_laws_written.specs.Catalog.Written.{name_at}
use Rattle.hq_laws_written.proofs.Catalog.Lists.{differ_map}
use Rattle.hq_laws_written.proofs.Catalog.Places.{differ}
use Rattle.hq_laws_written.specs.Metadata.Plain.{IsPlainTable}
use Rattle.hq_laws_written.specs.Metadata.Written.{is_shown, column_configs, roots_json, configuration_json, tracked_json}
use Rattle.hq_laws_written.proofs.Metadata.Columns.{configs_pass, names_back}
use Rattle.hq_laws_written.proofs.Metadata.Fitting.{IsEntry}
use Rattle.hq_laws_written.proofs.Metadata.Lists.{after_back, differ_after, after_each, after_both, each_both}
use Rattle.hq_laws_written.proofs.Metadata.Parts.{Apart, table_back}

-- ---- root fields

-- the root fields are read with their names
roots_back : (path name : List ℕ) (r : RootNames) → are_free_roots r ≡ true → roots_due path name (Some (in_name_order (roots_json r))) ≡ Ok r
unfolding roots_due object_at root_due named_value field_name free_name_at text_at
roots_back path name r h =
    let p = and_parts (is_free_name r.select && is_free_name r.select_aggregate) (is_free_name r.select_by_pk) h in
    let q = and_parts (is_free_name r.select) (is_free_name r.select_aggregate) p.0 in
    rw (q.0, p.1, q.1) refl

-- ---- the configuration

-- a column that no permission shows has its own name
abbrev Own : TrackedTree → List Column → Type 0
Own k columns = Each (λ c. is_shown k c ≡ false → slice_index_or k.column_names c [] ≡ name_at columns c) (all_columns columns)

-- the columns' names are read
columns_back : (k : TrackedTree) (columns : List Column) (path : List ℕ) → differ columns ≡ true → Own k columns → length k.column_names ≡ length columns
    → column_names_due columns path (Some (in_name_order (configuration_json k columns))) ≡ Ok k.column_names
unfolding column_names_due named_value field_name
columns_back k columns path h own many =
    ap (and_then (λ u. Ok (map (column_name_of (Some (in_name_order (object (column_configs k columns)))) None) columns))) (configs_pass k columns h (at path field.ColumnConfig))
    ∙ ap Ok (names_back k columns h own many)

-- a tracked table with its names alone
abbrev pub bare : TrackedTree → TrackedTree
bare k = record k { rels = []; perms = [] }

-- the name that is given is read
name_back : (path name : List ℕ) (u : Table) → is_table_name name ≡ true → table_name_due path (Some (str name)) u ≡ Ok name
unfolding table_name_at text_at
name_back path name u h = rw h refl

-- the configuration of a table is read
configured_back : (k : TrackedTree) (columns : List Column) (u : Table) (path : List ℕ) → columns ≡ u.columns → differ columns ≡ true → Own k columns → length k.column_names ≡ length columns
    → is_table_name k.name ≡ true → are_free_roots k.roots ≡ true → configured path (Some (in_name_order (configuration_json k columns))) k.table u ≡ Ok (bare k)
unfolding configured object_at named_value field_name
configured_back k columns u path same h own many named roots =
    rw (← same) (rw (columns_back k columns path h own many, name_back (at path field.CustomName) k.name u named, roots_back (at path field.CustomRootFields) k.name k.roots roots) refl)

-- ---- entries

-- the entry of a table that is not tracked before
entry_back : (tables : List Table) (k : TrackedTree) (u : Table) (before : List TrackedTree) (path : List ℕ) → Apart tables → slice_get tables k.table ≡ Some u
    → list_any (λ j. j.table == k.table) before ≡ false
    → entry_table tables before path (in_name_order (tracked_json tables k)) (Some (str k.name)) ≡ Ok (k.table, u)
unfolding entry_table member_at field_name
entry_back tables k u before path h is_at new = rw (table_back tables k.table u (at path field.Table) h is_at) (rw (is_at, new) refl)

tracked_back : (tables : List Table) (m : MetaTree) (k : TrackedTree) (before : List TrackedTree) (path : List ℕ) → Apart tables → differ (columns_of tables k.table) ≡ true
    → IsEntry tables m k → IsPlainTable tables k → list_any (λ j. j.table == k.table) before ≡ false → tracked_at tables before path (in_name_order (tracked_json tables k)) ≡ Ok (bare k)
unfolding tracked_at object_at named_value field_name
tracked_back tables m k before path h apart entry plain new =
    let u = entry.table.0 in
    let columns : columns_of tables k.table ≡ u.columns = ap columns_in entry.table.1 in
    rw (entry_back tables k u before path h entry.table.1 new)
    (configured_back k (columns_of tables k.table) u (at path field.Configuration) columns apart plain.own entry.named entry.name entry.roots)

-- the entries are read as the tables with their names
pub all_tracked : (tables : List Table) (m : MetaTree) (ks : List TrackedTree) (path : List ℕ) → Apart tables → Each (λ k. differ (columns_of tables k.table) ≡ true) ks
    → Each (IsEntry tables m) ks → Each (IsPlainTable tables) ks → all_differ (λ j k. j.table == k.table) ks ≡ true
    → each_after (tracked_at tables) path 0 [] (map (λ k. in_name_order (tracked_json tables k)) ks) ≡ Ok (map bare ks)
all_tracked tables m ks path h apart entries plain once =
    let Good : TrackedTree → Type 0 = λ k. (differ (columns_of tables k.table) ≡ true) × IsEntry tables m k × IsPlainTable tables k in
    let good : Each Good ks = each_both (λ (k : TrackedTree). differ (columns_of tables k.table) ≡ true) (λ k. IsEntry tables m k × IsPlainTable tables k) Good (λ k a b. (a, b.0, b.1)) ks apart
    (each_both (IsEntry tables m) (IsPlainTable tables) (λ k. IsEntry tables m k × IsPlainTable tables k) (λ k a b. (a, b)) ks entries plain) in
    let new = differ_after (λ (j k : TrackedTree). j.table == k.table) bare [] ks (differ_map (λ (j k : TrackedTree). j.table == k.table) bare ks ∙ once) in
    after_back (tracked_at tables) (λ k. in_name_order (tracked_json tables k)) bare path 0 [] ks
    (after_both (λ (done : List TrackedTree). Good)
    (λ (done : List TrackedTree) (k : TrackedTree). list_any (λ (j : TrackedTree). j.table == k.table) done ≡ false)
    (λ (done : List TrackedTree) (k : TrackedTree). (p : List ℕ)
    → tracked_at tables done p (in_name_order (tracked_json tables k)) ≡ Ok (bare k))
    bare
    (λ done k g n p. tracked_back tables m k done p h g.0 g.1 g.2 n) [] ks (after_each Good bare [] ks good) new)
