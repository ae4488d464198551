-- The metadata that are read back as they are written: no inherited roles, no filters, and lists that stand in the order in
-- which they are read.
use Rattle.std.specs.Prelude.{◌≡◌, List, [], map, true, false, ◌&&◌, slice_index_or, bytes_eq}
use Rattle.std.specs.List.{list_all}
use Rattle.hq_base.specs.Lists.{Each, Ascends, all_differ}
use Rattle.hq_model.specs.Bexp.{always}
use Rattle.hq_model.specs.Catalog.{is_catalog}
use Rattle.hq_model.specs.Fits.{fits}
use Rattle.hq_model.specs.Meta.{PermTree, TrackedTree, MetaTree}
use Rattle.hq_model.specs.declared.meta.Rel.{Rel}
use Rattle.hq_model.specs.declared.table.Column.{Column}
use Rattle.hq_model.specs.declared.table.Table.{Table}
use Rattle.hq_load_meta_tables.specs.Found.{columns_of}
use Rattle.hq_load_meta.specs.Permitted.{all_columns, chosen}
use Rattle.hq_laws_written.specs.Json.ReadBack.{by_name, is_clean}
use Rattle.hq_laws_written.specs.Catalog.Written.{name_at, has_clean_names}
use Rattle.hq_laws_written.specs.Metadata.Written.{is_shown, pair_json}

-- a relationship: its pairs stand in ascending order of the own columns' names, which differ
pub record IsPlainRel (own remote : List Column) (r : Rel) : Type 0 where
  pub ascending : Ascends by_name (map (pair_json own remote) r.pairs)
  pub differ : all_differ bytes_eq (map (λ p. name_at own p.own) r.pairs) ≡ true
  pub clean : is_clean r.name ≡ true

-- a permission: it has the filter True, and its columns in the catalog's order
pub record IsPlainPerm (columns : List Column) (p : PermTree) : Type 0 where
  pub unfiltered : p.filter ≡ always
  pub ordered : chosen p.cols columns ≡ p.cols
  pub clean : is_clean p.role ≡ true

-- a tracked table: a column that no permission shows has its own name
pub record IsPlainTable (tables : List Table) (k : TrackedTree) : Type 0 where
  pub own : Each (λ c. is_shown k c ≡ false → slice_index_or k.column_names c [] ≡ name_at (columns_of tables k.table) c) (all_columns (columns_of tables k.table))
  pub rels : Each (λ (r : Rel). IsPlainRel (columns_of tables k.table) (columns_of tables r.remote) r) k.rels
  pub perms : Each (IsPlainPerm (columns_of tables k.table)) k.perms
  pub clean : (is_clean k.name && list_all is_clean k.column_names) ≡ true
  pub roots : (is_clean k.roots.select && is_clean k.roots.select_by_pk && is_clean k.roots.select_aggregate) ≡ true

-- a metadata: it fits the catalog, has no inherited role, and each of its tables is such a one
pub record IsPlain (tables : List Table) (m : MetaTree) : Type 0 where
  pub catalog : is_catalog tables ≡ true
  pub clean : has_clean_names tables ≡ true
  pub fits : fits tables m ≡ true
  pub own : m.inherited ≡ []
  pub tracked : Each (IsPlainTable tables) m.tracked
