-- Tables and columns under their names: they are read as what they stand for.
use Rattle.std.proofs.Common.{◌≡◌, ◌∙◌, ℕ, ◌&&◌, List, map, true, Some, Ok, slice_get, is_some, ok_or, position, bytes_eq, refl, ap}
use Rattle.std.proofs.lemmas.Bool.{and_from}
use Rattle.hq_base.specs.Json.{str, elements_of}
use Rattle.hq_base.specs.Lists.{Each, all_differ}
use Rattle.hq_base.specs.Look.{element_list}
use Rattle.hq_base.proofs.Lists.{each_weaken, map_map}
use Rattle.hq_model.specs.Catalog.{full_name}
use Rattle.hq_model.specs.Meta.{MetaTree, tracked_table}
use Rattle.hq_model.specs.declared.table.Column.{Column}
use Rattle.hq_model.specs.declared.table.Table.{Table}
use Rattle.hq_load_filter.specs.Tables.{qualified_table, text_member, table_named}
use Rattle.hq_load_filter.specs.Tables as filter
use Rattle.hq_load_meta_tables.specs.Each.{each}
use Rattle.hq_load_meta_tables.specs.Field.{field_name}
use Rattle.hq_load_meta_tables.specs.Found.{table_at, remote_at, column_named, column_at}
use Rattle.hq_load_meta_tables.specs.Node.{text_at}
use Rattle.hq_load_meta_tables.specs.Refused.{refused}
use Rattle.hq_load_meta_tables.specs.declared.refusal.MetaRefusal.TheVariants.{UnknownColumn}
use Rattle.hq_laws_written.specs.Json.ReadBack.{in_name_order, elements_in_name_order}
use Rattle.hq_laws_written.proofs.Json.Building.{elements_read}
use Rattle.hq_laws_written.specs.Catalog.Written.{name_at}
use Rattle.hq_laws_written.proofs.Catalog.Lists.{position_of, differ_weaken}
use Rattle.hq_laws_written.proofs.Catalog.Places.{same_name, IsPlace, differ, place_found}
use Rattle.hq_laws_written.proofs.Catalog.Resolving.{one_name}
use Rattle.hq_laws_written.proofs.Catalog.Shapes.{itself}
use Rattle.hq_laws_written.specs.Metadata.Written.{table_ref}
use Rattle.hq_laws_written.proofs.Metadata.Lists.{each_back}

-- ---- tables

-- the tables have different names
abbrev pub Apart : List Table → Type 0
Apart tables = all_differ (λ t u. bytes_eq (full_name t) (full_name u)) tables ≡ true

-- a table is found under its schema and name
found : (tables : List Table) (k : ℕ) (u : Table) → Apart tables → slice_get tables k ≡ Some u → position (λ t. bytes_eq t.schema u.schema && bytes_eq t.name u.name) tables ≡ Some k
found tables k u h at =
    position_of (λ (t v : Table). bytes_eq t.schema v.schema && bytes_eq t.name v.name) tables k u
    (differ_weaken (λ (t v : Table). bytes_eq t.schema v.schema && bytes_eq t.name v.name) (λ t v. bytes_eq (full_name t) (full_name v)) one_name tables h)
    (and_from _ _ (same_name u.schema) (same_name u.name)) at

read_table : (tables : List Table) (k : ℕ) (u : Table) (path : List ℕ) → Apart tables → slice_get tables k ≡ Some u
    → filter.table_at tables path (in_name_order (table_ref (slice_get tables k))) ≡ Ok k
unfolding filter.table_at qualified_table text_member table_named field_name
read_table tables k u path h at = rw at (rw (found tables k u h at) refl)

-- what stands for a table is read as its place
pub table_back : (tables : List Table) (k : ℕ) (u : Table) (path : List ℕ) → Apart tables → slice_get tables k ≡ Some u → table_at tables path (in_name_order (table_ref (slice_get tables k))) ≡ Ok k
unfolding table_at
table_back tables k u path h at = ap refused (read_table tables k u path h at)

-- and as that of a tracked one, where it is tracked
pub remote_back : (tables : List Table) (m : MetaTree) (k : ℕ) (u : Table) (path : List ℕ) → Apart tables → slice_get tables k ≡ Some u → is_some (tracked_table m k) ≡ true
    → remote_at tables m path (in_name_order (table_ref (slice_get tables k))) ≡ Ok k
unfolding remote_at filter.remote_at filter.tracked_due
remote_back tables m k u path h at tracked = rw (read_table tables k u path h at) (rw tracked refl)

-- ---- columns

-- a column's name is read as its place
pub named_back : (columns : List Column) (k : ℕ) (path : List ℕ) → differ columns ≡ true → IsPlace columns k → column_named columns path (name_at columns k) ≡ Ok k
unfolding column_named
named_back columns k path h is = ap (λ o. ok_or o (UnknownColumn path)) (place_found columns k h is)

column_back : (columns : List Column) (k : ℕ) (path : List ℕ) → differ columns ≡ true → IsPlace columns k → column_at columns path (str (name_at columns k)) ≡ Ok k
unfolding column_at text_at
column_back columns k path h is = named_back columns k path h is

-- an array of columns' names is read as their places
pub columns_back : (columns : List Column) (path : List ℕ) (ks : List ℕ) → differ columns ≡ true → Each (IsPlace columns) ks
    → each (column_at columns) path (element_list (elements_in_name_order (elements_of (map str (map (name_at columns) ks))))) ≡ Ok ks
columns_back columns path ks h there =
    ap (each (column_at columns) path) (elements_read str (map (name_at columns) ks) ∙ map_map (λ n. in_name_order (str n)) (name_at columns) ks)
    ∙ each_back (column_at columns) (λ k. str (name_at columns k)) (λ k. k) path ks
    (each_weaken (IsPlace columns) (λ k. (p : List ℕ) → column_at columns p (str (name_at columns k)) ≡ Ok k)
    (λ k is p. column_back columns k p h is) ks there)
    ∙ ap Ok (itself ks)
