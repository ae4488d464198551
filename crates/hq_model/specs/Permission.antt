-- What a role may see of a table (Hasura, Authorization: select permissions).
use Rattle.std.specs.Prelude.{ℕ, suc, max, List, [], ◌∷◌, ◌++◌, map, filter, find, Bool, true, cond, ◌==◌, Option, Some, None, option_and_then, option_map, unwrap_or, bytes_eq}
use Rattle.std.specs.List.{list_any, list_all}
use Rattle.hq_base.specs.Lists.{firsts}
use Rattle.hq_model.specs.Bexp.{BexpTree, always, or_of, bexps_of}
use Rattle.hq_model.specs.Meta.{PermTree, TrackedTree, MetaTree, tracked_table}
use Rattle.hq_model.specs.Names.{is_admin_name, is_free_name}
use Rattle.hq_model.specs.declared.meta.Inherited.{Inherited}
use Rattle.hq_model.specs.declared.role.Role.{Role}
use Rattle.hq_model.specs.declared.role.Role.TheVariants.{Admin, Named}

-- the rows for which a column's cell is shown; in all others it shows as NULL
pub record Mask : Type 0 where
  pub column : ℕ
  pub shown : BexpTree

-- the columns in the catalog's order, the filter that rows are to meet, the most rows of a list, whether aggregates are
-- allowed, and the masks in column order
pub record Permission : Type 0 where
  pub columns : List ℕ
  pub filter : BexpTree
  pub limit : Option ℕ
  pub aggregations : Bool
  pub masks : List Mask

-- the role of a session
abbrev pub role_of : List ℕ → Role
role_of name = cond (is_admin_name name) Admin (Named name)

-- the places, from k on, of the columns whose GraphQL name may stand in a schema
abbrev pub named_from : (k : ℕ) → List (List ℕ) → List ℕ
named_from k [] = []
named_from k (n ∷ ns) = cond (is_free_name n) (k ∷ named_from (suc k) ns) (named_from (suc k) ns)

-- the columns of a table that may stand in a schema
abbrev pub named_columns : TrackedTree → List ℕ
named_columns k = named_from 0 k.column_names

-- a permission none of whose columns has a GraphQL name counts as none
abbrev pub with_columns : Permission → List ℕ → Option Permission
with_columns p [] = None
with_columns p (c ∷ cs) = Some (record p { columns = c ∷ cs })

-- admin may see all columns and rows, without a limit, and aggregates
abbrev pub admin_permission : TrackedTree → Option Permission
admin_permission k = with_columns (record { columns = []; filter = always; limit = None; aggregations = true; masks = [] }) (named_columns k)

-- another role may see what its select permission says
abbrev pub told_permission : TrackedTree → PermTree → Option Permission
told_permission k p =
    with_columns (record { columns = []; filter = p.filter; limit = p.limit; aggregations = p.aggregations; masks = [] })
    (filter (λ c. list_any (λ d. d == c) p.cols) (named_columns k))

-- what a role's own entry permits of a table
abbrev pub own_permission : TrackedTree → List ℕ → Option Permission
own_permission k name = option_and_then (told_permission k) (find (λ p. bytes_eq p.role name) k.perms)

-- ---- a role that sees what each role of a set sees

-- the list of what is there
abbrev pub option_list : {A : Type 0} → Option A → List A
option_list None = []
option_list (Some x) = x ∷ []

-- what the roles permit, in their order; nothing of those that permit nothing
abbrev pub permissions_of : TrackedTree → List (List ℕ) → List Permission
permissions_of k [] = []
permissions_of k (r ∷ rs) = option_list (own_permission k r) ++ permissions_of k rs

-- one of these, or the only one
abbrev pub either : List BexpTree → BexpTree
either (b ∷ []) = b
either bs = or_of (bexps_of bs)

-- a permission has a column
abbrev pub permits : ℕ → Permission → Bool
permits c p = list_any (λ d. d == c) p.columns

-- the filters of the permissions
abbrev pub filters_of : List Permission → List BexpTree
filters_of ps = map (λ p. p.filter) ps

-- the filters of those that have a column
abbrev pub filters_for : ℕ → List Permission → List BexpTree
filters_for c ps = filters_of (filter (permits c) ps)

-- the larger of two limits; none where one has none
abbrev pub larger : Option ℕ → Option ℕ → Option ℕ
larger (Some a) (Some b) = Some (max a b)
larger _ _ = None

-- the largest of a limit and those of permissions
abbrev pub largest : Option ℕ → List Permission → Option ℕ
largest limit [] = limit
largest limit (p ∷ ps) = largest (larger limit p.limit) ps

-- the largest limit of several permissions
abbrev pub limit_of : List Permission → Option ℕ
limit_of [] = None
limit_of (p ∷ ps) = largest p.limit ps

-- one of them allows aggregates
abbrev pub some_aggregate : List Permission → Bool
some_aggregate ps = list_any (λ p. p.aggregations) ps

-- the mask of a column that not each permission has: it is shown where a filter of those that have it is true
abbrev pub mask_for : List Permission → ℕ → List Mask
mask_for ps c = cond (list_all (permits c) ps) [] (record { column = c; shown = either (filters_for c ps) } ∷ [])

-- the masks of columns
abbrev pub masks_for : List Permission → List ℕ → List Mask
masks_for ps [] = []
masks_for ps (c ∷ cs) = mask_for ps c ++ masks_for ps cs

-- the columns that some permission has
abbrev pub columns_of_any : TrackedTree → List Permission → List ℕ
columns_of_any k ps = filter (λ c. list_any (permits c) ps) (named_columns k)

-- what several permissions permit together; nothing where there are none, as none has a column then
abbrev pub combined : TrackedTree → List Permission → Option Permission
combined k ps =
    with_columns (record {
      columns = [];
      filter = either (filters_of ps);
      limit = limit_of ps;
      aggregations = some_aggregate ps;
      masks = masks_for ps (columns_of_any k ps);
    }) (columns_of_any k ps)

-- a name behind others, where it is not among them
abbrev pub with_name : List (List ℕ) → List ℕ → List (List ℕ)
with_name names name = cond (list_any (λ n. bytes_eq n name) names) names (names ++ name ∷ [])

-- the set of an inherited role, each name once; of another role none
abbrev pub set_of : List Inherited → List ℕ → List (List ℕ)
set_of is name = firsts bytes_eq (unwrap_or (option_map (λ i. i.set) (find (λ i. bytes_eq i.role name) is)) [])

-- a role's own permission, and else what the roles of a set permit together
abbrev pub or_inherited : Option Permission → TrackedTree → List (List ℕ) → Option Permission
or_inherited (Some p) k rs = Some p
or_inherited None k rs = combined k (permissions_of k rs)

-- a role's permission on a tracked table; a name is looked for whole
abbrev pub permission_in : Role → List Inherited → TrackedTree → Option Permission
permission_in Admin is k = admin_permission k
permission_in (Named name) is k = or_inherited (own_permission k name) k (set_of is name)

-- the effective permission of a role on a table: none where the table is not tracked or nothing is permitted
abbrev pub permission : Role → MetaTree → ℕ → Option Permission
permission role m t = option_and_then (permission_in role m.inherited) (tracked_table m t)
