-- What a role may see of tables, as far as a schema says it (Hasura, Authorization: select permissions).
use Rattle.std.specs.Prelude.{ℕ, Bool, false, ◌==◌, Option, option_and_then, is_some, slice_get}
use Rattle.std.specs.List.{list_any}
use Rattle.std.specs.Option.{option_map_or}
use Rattle.hq_model.specs.Meta.{MetaTree, tracked_table}
use Rattle.hq_model.specs.Permission.{permission}
use Rattle.hq_model.specs.declared.meta.Rel.{Rel}
use Rattle.hq_model.specs.declared.role.Role.{Role}

-- whether a table is seen at all, whether a column of it is, whether it may be aggregated, and its relationships
pub record Access : Type 0 where
  pub seen : (table : ℕ) → Bool
  pub column : (table column : ℕ) → Bool
  pub aggregates : (table : ℕ) → Bool
  pub rel : (table rel : ℕ) → Option Rel

-- by the role's effective permissions
abbrev pub access_of : MetaTree → Role → Access
access_of m role = record {
  seen = λ t. is_some (permission role m t);
  column = λ t c. option_map_or (λ p. list_any (λ d. d == c) p.columns) (permission role m t) false;
  aggregates = λ t. option_map_or (λ p. p.aggregations) (permission role m t) false;
  rel = λ t r. option_and_then (λ k. slice_get k.rels r) (tracked_table m t);
}
