-- What a role may use of tables (Hasura, Authorization: select permissions), and what there is to be used.
use Rattle.std.specs.Prelude.{ℕ, List, [], length, Bool, true, false, ◌&&◌, ◌==◌, nat_lt, Option, is_some, option_map, unwrap_or, slice_get}
use Rattle.std.specs.List.{list_any}
use Rattle.hq_model.specs.Filters.{column_ty}
use Rattle.hq_model.specs.Fits.{fits_rel}
use Rattle.hq_model.specs.Meta.{MetaTree}
use Rattle.hq_model.specs.Permission.{Permission, permission}
use Rattle.hq_model.specs.Schema.{Schema, table, rel}
use Rattle.hq_model.specs.declared.role.Role.{Role}

-- the columns, the relationships and the aggregates of tables that may be used
pub record Allowed : Type 0 where
  pub column : (table column : ℕ) → Bool
  pub relationship : (table relationship : ℕ) → Bool
  pub rows : (table : ℕ) → Bool
  pub aggregates : (table : ℕ) → Bool

-- the columns of a permission, none where there is none
abbrev pub permitted_columns : Option Permission → List ℕ
permitted_columns p = unwrap_or (option_map (λ q. q.columns) p) []

-- a permission allows aggregates
abbrev pub has_aggregates : Option Permission → Bool
has_aggregates p = unwrap_or (option_map (λ q. q.aggregations) p) false

-- what a role may use: the permitted columns; the relationships of a table whose remote table it may see; the rows of
-- tables on which it has a permission, and their aggregates where that allows them
abbrev pub allowed_to : Role → MetaTree → Schema → Allowed
allowed_to role m s = record {
  column = λ t c. list_any (λ d. d == c) (permitted_columns (permission role m t));
  relationship = λ t r. is_some (slice_get (table s t).rels r) && is_some (permission role m (rel s t r).remote);
  rows = λ t. is_some (permission role m t);
  aggregates = λ t. has_aggregates (permission role m t);
}

-- what there is: the columns of tables; relationships to a table of the catalog, whose pairs can be compared; and tables
abbrev pub existing : MetaTree → Schema → Allowed
existing m s = record {
  column = λ t c. is_some (column_ty s t c);
  relationship = λ t r. fits_rel s m t (rel s t r) && nat_lt (rel s t r).remote (length s);
  rows = λ t. nat_lt t (length s);
  aggregates = λ t. true;
}
