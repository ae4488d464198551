-- When a metadata fits a catalog (Hasura, Metadata API reference: tables, relationships, permissions).
use Rattle.std.specs.Prelude.{ℕ, ◌^◌, List, [], ◌∷◌, length, Bool, true, not, cond, ◌&&◌, ◌==◌, nat_lt, nat_le, Option, Some, None, is_some, bytes_eq, codes}
use Rattle.std.specs.List.{list_all, list_any}
use Rattle.hq_base.specs.Lists.{all_differ}
use Rattle.hq_model.specs.Bexp.{BexpTree, always, and_of, or_of, not_of, test, through, exists_in, two_columns, BexpTrees, no_bexp, bexp, depth}
use Rattle.hq_model.specs.Catalog.{can_pair}
use Rattle.hq_model.specs.Filters.{column_ty, is_filter}
use Rattle.hq_model.specs.Meta.{PermTree, TrackedTree, MetaTree, tracked_table}
use Rattle.hq_model.specs.Names.{is_admin_name, is_free_name, is_table_name}
use Rattle.hq_model.specs.Schema.{Schema, schema_of, table}
use Rattle.hq_model.specs.SchemaNames.{names_differ}
use Rattle.hq_model.specs.declared.meta.Inherited.{Inherited}
use Rattle.hq_model.specs.declared.meta.RootNames.{RootNames}
use Rattle.hq_model.specs.declared.meta.Rel.{Rel}
use Rattle.hq_model.specs.declared.table.Table.{Table}

-- a relationship's name: that of the aggregate of an array one goes on with an underscore
abbrev pub is_rel_name : Rel → Bool
is_rel_name r = is_free_name r.name && not (r.many && bytes_eq r.name (codes "_"))

-- a relationship goes to a tracked table by at least one pair, and the columns of each pair can be compared
abbrev pub fits_rel : Schema → MetaTree → ℕ → Rel → Bool
fits_rel s m t r =
    is_rel_name r
    && is_some (tracked_table m r.remote)
    && nat_lt 0 (length r.pairs)
    && list_all (λ p. can_pair (column_ty s t p.own) (column_ty s r.remote p.remote)) r.pairs

-- object relationships stand before array ones
abbrev pub objects_first : List Rel → Bool
objects_first [] = true
objects_first (r ∷ rs) = cond r.many (list_all (λ q. q.many) rs) (objects_first rs)

-- a limit is below 2 ^ 63
abbrev pub limit_fits : Option ℕ → Bool
limit_fits None = true
limit_fits (Some n) = nat_lt n (2 ^ 63)

-- each table whose rows an expression asks for by itself is tracked
abbrev mutual
  pub asks_tracked : MetaTree → BexpTree → Bool
  asks_tracked m always = true
  asks_tracked m (and_of bs) = all_ask_tracked m bs
  asks_tracked m (or_of bs) = all_ask_tracked m bs
  asks_tracked m (not_of b) = asks_tracked m b
  asks_tracked m (test c tested vs negated) = true
  asks_tracked m (through r b) = asks_tracked m b
  asks_tracked m (exists_in u b) = is_some (tracked_table m u) && asks_tracked m b
  asks_tracked m (two_columns l op r) = true

  pub all_ask_tracked : MetaTree → BexpTrees → Bool
  all_ask_tracked m no_bexp = true
  all_ask_tracked m (bexp b bs) = asks_tracked m b && all_ask_tracked m bs

-- a permission of another role than admin, with columns of the table, a filter over it that is not nested too deep and
-- asks for tracked tables alone, and a limit below 2 ^ 63
abbrev pub fits_perm : Schema → MetaTree → ℕ → PermTree → Bool
fits_perm s m t p =
    not (is_admin_name p.role)
    && list_all (λ c. is_some (column_ty s t c)) p.cols
    && is_filter p.filter s t
    && nat_le (depth p.filter) 300
    && limit_fits p.limit
    && asks_tracked m p.filter

-- an inherited role of this name is there
abbrev pub is_inherited : List Inherited → List ℕ → Bool
is_inherited is name = list_any (λ i. bytes_eq i.role name) is

-- an inherited role is not admin, and its set has roles that are neither admin nor inherited
abbrev pub fits_inherited : List Inherited → Inherited → Bool
fits_inherited is i =
    not (is_admin_name i.role)
    && nat_lt 0 (length i.set)
    && list_all (λ r. not (is_admin_name r) && not (is_inherited is r)) i.set

-- inherited roles of different names
abbrev pub are_inherited : List Inherited → Bool
are_inherited is = all_differ (λ i j. bytes_eq i.role j.role) is && list_all (fits_inherited is) is

-- the names of root fields are free Names
abbrev pub are_free_roots : RootNames → Bool
are_free_roots r = is_free_name r.select && is_free_name r.select_aggregate && is_free_name r.select_by_pk

-- a tracked table of the catalog, with a GraphQL name for each column, at most one permission a role
abbrev pub fits_tracked : Schema → MetaTree → TrackedTree → Bool
fits_tracked s m k =
    nat_lt k.table (length s)
    && is_table_name k.name
    && (length k.column_names == length (table s k.table).columns)
    && are_free_roots k.roots
    && list_all (fits_rel s m k.table) k.rels
    && objects_first k.rels
    && all_differ (λ p q. bytes_eq p.role q.role) k.perms
    && list_all (fits_perm s m k.table) k.perms

-- a metadata fits a catalog: each table is tracked once, each entry fits, the names in the schema of admin differ, and the
-- inherited roles fit
abbrev pub fits : List Table → MetaTree → Bool
fits tables m =
    let s = schema_of tables m in
    all_differ (λ j k. j.table == k.table) m.tracked && list_all (fits_tracked s m) m.tracked && names_differ s m
    && are_inherited m.inherited
