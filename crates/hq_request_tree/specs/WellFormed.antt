-- A well-formed typed request over a catalog and a metadata that fits it.
use Rattle.std.specs.Prelude.{◌≡◌, ◌≤◌, ℕ, List, map, length, Bool, true, ◌&&◌, is_some}
use Rattle.std.specs.List.{list_all}
use Rattle.hq_model.specs.Filters.{column_ty}
use Rattle.hq_model.specs.Meta.{MetaTree}
use Rattle.hq_model.specs.Permission.{Mask}
use Rattle.hq_model.specs.Schema.{Schema, schema_of}
use Rattle.hq_model.specs.declared.table.Table.{Table}
use Rattle.hq_request_tree.specs.Allowed.{allowed_to}
use Rattle.hq_request_tree.specs.Conditions.{is_condition, AllFit}
use Rattle.hq_request_tree.specs.IntrospectionTypes.{AllLooks}
use Rattle.hq_request_tree.specs.Levels.{levels}
use Rattle.hq_request_tree.specs.Request.{BoundTree, AskTree}
use Rattle.hq_request_tree.specs.ResponseKeys.{AllKeys}
use Rattle.hq_request_tree.specs.Standing.{AllStand}
use Rattle.hq_request_tree.specs.Touched.{touched}
use Rattle.hq_request_tree.specs.TypeNames.{AllNamed}
use Rattle.hq_request_tree.specs.Uses.{UsesAll}

-- a bound mask of table t: a column of it, and a condition over it
abbrev pub is_bound_mask : Schema → ℕ → Mask → Bool
is_bound_mask s t m = is_some (column_ty s t m.column) && is_condition 301 m.shown s t

-- a bound filter, and each bound mask, is a condition over its table
abbrev pub is_bound_table : Schema → BoundTree → Bool
is_bound_table s b = is_condition 301 b.filter s b.table && list_all (is_bound_mask s b.table) b.masks

-- The root fields stand at no table: at the place behind the last one.
pub record IsRequest (tables : List Table) (m : MetaTree) (a : AskTree) : Type 0 where
  -- what the role may use is used, and nothing else
  pub uses : UsesAll a.fields (schema_of tables m) (allowed_to a.role m (schema_of tables m)) (length tables)
  -- fields stand at the root or below it, and along relationships of their kind
  pub stand : AllStand a.fields (schema_of tables m) (length tables)
  -- conditions, sorts, keys and aggregates are of their columns' types and within their bounds
  pub fit : AllFit a.fields (schema_of tables m) (length tables)
  -- the response keys of each object differ, and they are at most 50
  pub keys : AllKeys a.fields (schema_of tables m) (length tables)
  -- type names are those of the types that they stand in
  pub named : AllNamed a.fields m (schema_of tables m) (length tables)
  -- introspection asks for what its types have
  pub looks : AllLooks a.fields (schema_of tables m) (length tables)
  -- fields are at most 50 deep
  pub shallow : levels a.fields ≤ 50
  -- the touched tables, each once, have their bound filters and masks
  pub touched : map (λ b. b.table) a.bound ≡ touched a.fields (schema_of tables m) (length tables)
  pub bound : list_all (is_bound_table (schema_of tables m)) a.bound ≡ true
