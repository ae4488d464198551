-- The select permissions of the tracked tables (Hasura v2, metadata format: SelectPermissionEntry).
use Rattle.std.specs.Prelude.{ℕ, ◌^◌, ℤ, pos, List, [], ◌∷◌, filter, zip, Bool, false, not, nat_lt, is_some, Option, Some, None, Result, Ok, Err, if◌then◌else◌, bytes_eq, codes}
use Rattle.std.specs.List.{list_any}
use Rattle.hq_base.specs.Due.{◌>>=◌, mapped}
use Rattle.hq_base.specs.Json.{JsonTree, null, int}
use Rattle.hq_base.specs.Look.{bool_in, str_in, array_in}
use Rattle.hq_load_filter.specs.Filter.{filter_due}
use Rattle.hq_model.specs.Meta.{PermTree, TrackedTree, MetaTree}
use Rattle.hq_model.specs.Names.{is_admin_name}
use Rattle.hq_model.specs.Schema.{numbered}
use Rattle.hq_model.specs.declared.table.Column.{Column}
use Rattle.hq_model.specs.declared.table.Table.{Table}
use Rattle.hq_load_meta_tables.specs.declared.field.Field.{Field}
use Rattle.hq_load_meta_tables.specs.declared.field.Field.TheVariants as field
use Rattle.hq_load_meta_tables.specs.declared.refusal.MetaRefusal.{MetaRefusal}
use Rattle.hq_load_meta_tables.specs.declared.refusal.MetaRefusal.TheVariants as refusal
use Rattle.hq_load_meta_tables.specs.Each.{each, each_after}
use Rattle.hq_load_meta_tables.specs.Found.{columns_of, column_at}
use Rattle.hq_load_meta_tables.specs.Node.{required, checked, at, value_of, object_at, member_at, text_member, object_member, entries_member}
use Rattle.hq_load_meta.specs.Linked.{is_among}
use Rattle.hq_load_meta_tables.specs.Refused.{refused}
use Rattle.hq_load_meta_tables.specs.Tracked.{tables_of}

-- the role of a permission is not admin's, and none before it has it
unfoldable pub role_due : (before : List PermTree) → (path : List ℕ) → JsonTree → Result (List ℕ) MetaRefusal
role_due before path object = do
  role ← text_member path object field.Role
  _ ← checked (at path field.Role) (not (is_admin_name role))
  if list_any (λ p. bytes_eq p.role role) before then Err (refusal.RepeatedRole (at path field.Role)) else Ok role

-- all columns, by their places
abbrev pub all_columns : List Column → List ℕ
all_columns columns = numbered (λ place c. place) 0 columns

-- those of the columns that are among these, in the catalog's order
abbrev pub chosen : (listed : List ℕ) → List Column → List ℕ
chosen listed columns = filter (λ c. is_among c listed) (all_columns columns)

-- all columns, where a text is `*`
abbrev pub star : List Column → (path text : List ℕ) → Result (List ℕ) MetaRefusal
star columns path text = if bytes_eq text (codes "*") then Ok (all_columns columns) else Err (refusal.Shape path)

-- the columns at a path: the text `*` is all of them, and a list names some, where one that stands twice counts once
abbrev pub columns_by : List Column → (path : List ℕ) → (text : Option (List ℕ)) → (list : Option (List JsonTree)) → Result (List ℕ) MetaRefusal
columns_by columns path (Some text) list = star columns path text
columns_by columns path None (Some js) = mapped (λ listed. chosen listed columns) (each (column_at columns) path js)
columns_by columns path None None = Err (refusal.Shape path)

abbrev pub columns_at : List Column → (path : List ℕ) → JsonTree → Result (List ℕ) MetaRefusal
columns_at columns path j = columns_by columns path (str_in j) (array_in j)

-- a limit is a whole number from 0 on, below 2 ^ 63; it may be absent or null
abbrev pub whole_limit : (path : List ℕ) → ℤ → Result (Option ℕ) MetaRefusal
whole_limit path (pos n) = if nat_lt n (2 ^ 63) then Ok (Some n) else Err (refusal.Shape path)
whole_limit path _ = Err (refusal.Shape path)

abbrev pub limit_due : (path : List ℕ) → Option JsonTree → Result (Option ℕ) MetaRefusal
limit_due path None = Ok None
limit_due path (Some null) = Ok None
limit_due path (Some (int n)) = whole_limit path n
limit_due path (Some _) = Err (refusal.Shape path)

-- aggregates are not allowed where the file does not say
abbrev pub aggregations_due : (path : List ℕ) → Option JsonTree → Result Bool MetaRefusal
aggregations_due path None = Ok false
aggregations_due path (Some j) = required path (bool_in j)

-- a member that would narrow what is passed over here is absent
abbrev pub absent : (path : List ℕ) → JsonTree → Field → Result (Unit {0}) MetaRefusal
absent path object field = checked (at path field) (not (is_some (value_of object field)))

-- what a role may see of table t, where it stands at a path
unfoldable pub permission_at : List Table → MetaTree → (t : ℕ) → (role path : List ℕ) → JsonTree → Result PermTree MetaRefusal
permission_at tables m t role path object = do
  columns ← member_at path object field.Columns
  cols ← columns_at (columns_of tables t) (at path field.Columns) columns
  written ← member_at path object field.Filter
  filter ← refused (filter_due written tables m t (at path field.Filter))
  limit ← limit_due (at path field.Limit) (value_of object field.Limit)
  aggregations ← aggregations_due (at path field.AllowAggregations) (value_of object field.AllowAggregations)
  _ ← absent path object field.QueryRootFields
  _ ← absent path object field.SubscriptionRootFields
  Ok (record { role = role; cols = cols; filter = filter; limit = limit; aggregations = aggregations })

-- the select permission at a path, on table t, behind those before it
unfoldable pub perm_at : List Table → MetaTree → (t : ℕ) → (before : List PermTree) → (path : List ℕ) → JsonTree → Result PermTree MetaRefusal
perm_at tables m t before path j = do
  object ← object_at path j
  role ← role_due before path object
  permission ← object_member path object field.Permission
  permission_at tables m t role (at path field.Permission) permission

-- the permissions of an entry at a path, with the place of its table
unfoldable pub perms_at : List Table → MetaTree → (path : List ℕ) → ℕ × JsonTree → Result (List PermTree) MetaRefusal
perms_at tables m path entry = do
  list ← entries_member path entry.1 field.SelectPermissions
  each_after (perm_at tables m entry.0) (at path field.SelectPermissions) 0 [] list

-- tracked tables beside their permissions
abbrev pub perms_beside : List TrackedTree → List (List PermTree) → List TrackedTree
perms_beside (k ∷ ks) (perms ∷ more) = record k { perms = perms } ∷ perms_beside ks more
perms_beside _ _ = []

abbrev pub with_perms : MetaTree → List (List PermTree) → MetaTree
with_perms m perms = record m { tracked = perms_beside m.tracked perms }

-- the tables, whose entries stand in the list at a path, with their permissions
unfoldable pub permitted : List Table → (path : List ℕ) → List JsonTree → MetaTree → Result MetaTree MetaRefusal
permitted tables path js m = do
  perms ← each (perms_at tables m) path (zip (tables_of m) js)
  Ok (with_perms m perms)
