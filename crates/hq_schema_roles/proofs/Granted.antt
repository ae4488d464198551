-- What a shown table is made of: an entry of the metadata and a permission on it.
use Rattle.std.proofs.Common.{◌≡◌, ◌∙◌, refl, sym, ap, subst, ℕ, List, [], ◌∷◌, filter, Bool, true, ◌==◌, Option, Some, None}
use Rattle.std.specs.Prelude.{find, option_map, option_and_then, slice_get, bytes_eq}
use Rattle.std.specs.List.{list_any}
use Rattle.hq_model.specs.Bexp.{always}
use Rattle.hq_model.specs.Meta.{PermTree, TrackedTree, MetaTree, tracked_table}
use Rattle.hq_model.specs.Permission.{Permission, named_columns, with_columns, told_permission, own_permission, permissions_of, either, filters_of, permits, limit_of, some_aggregate, masks_for, columns_of_any, combined, set_of, or_inherited, permission_in}
use Rattle.hq_model.specs.SchemaNames.{has_columns, is_in_schema, in_schema}
use Rattle.hq_model.specs.declared.meta.Inherited.{Inherited}
use Rattle.hq_model.specs.declared.role.Role.{Role}
use Rattle.hq_model.specs.declared.role.Role.TheVariants.{Admin, Named}
use Rattle.hq_model.specs.declared.table.Table.{Table}
use Rattle.hq_schema_of_role.specs.Shown.{shown_table, shown_entry}
use Rattle.hq_schema_of_role.specs.declared.shown.ShownTable.{ShownTable}
use Rattle.hq_schema_roles.proofs.Subs.{Sub, sub_same, sub_filter, any_sub}

pub record Granted (tables : List Table) (k : TrackedTree) (t : ShownTable) : Type 0 where
  pub table : Table
  pub here : slice_get tables k.table ≡ Some table
  pub perm : Permission
  pub columns : Sub perm.columns (named_columns k)
  pub some : list_any (λ c. true) perm.columns ≡ true
  pub is : t ≡ shown_table k table perm

-- a permission has columns
with_is : (q : Permission) (cs : List ℕ) (p : Permission) → with_columns q cs ≡ Some p → (p.columns ≡ cs) × (list_any (λ c. true) p.columns ≡ true)
with_is q [] p e = cc
with_is q (c ∷ cs) p e =
    let made : Permission = record q { columns = c ∷ cs } in
    let same : made ≡ p = cc in
    (sym (ap (λ (r : Permission). r.columns) same), ap (λ (r : Permission). list_any (λ c. true) r.columns) (sym same))

-- which are some of those that have names
abbrev Chosen : TrackedTree → Permission → Type 0
Chosen k p = Sub p.columns (named_columns k) × (list_any (λ c. true) p.columns ≡ true)

-- so are those of an entry's own permission
own_chosen : (name : List ℕ) (k : TrackedTree) (p : Permission) → own_permission k name ≡ Some p → Chosen k p
own_chosen name k p e = by (find (λ (q : PermTree). bytes_eq q.role name) k.perms) e
  where
    by : (o : Option PermTree) → option_and_then (told_permission k) o ≡ Some p → Chosen k p
    by None e = cc
    by (Some q) e =
        let told : ℕ → Bool = λ (c : ℕ). list_any (λ d. d == c) q.cols in
        let base : Permission = record { columns = []; filter = q.filter; limit = q.limit; aggregations = q.aggregations; masks = [] } in
        let is = with_is base (filter told (named_columns k)) p e in
        (subst (λ (cs : List ℕ). Sub cs (named_columns k)) (sym is.0) (sub_filter told (named_columns k)), is.1)

-- and those that the roles of a set permit together
set_chosen : (k : TrackedTree) (ps : List Permission) (p : Permission) → combined k ps ≡ Some p → Chosen k p
set_chosen k ps p e =
    let some : ℕ → Bool = λ (c : ℕ). list_any (permits c) ps in
    let base : Permission = record { columns = []; filter = either (filters_of ps); limit = limit_of ps; aggregations = some_aggregate ps; masks = masks_for ps (columns_of_any k ps) } in
    let is = with_is base (columns_of_any k ps) p e in
    (subst (λ (cs : List ℕ). Sub cs (named_columns k)) (sym is.0) (sub_filter some (named_columns k)), is.1)

chosen : (role : Role) (is : List Inherited) (k : TrackedTree) (p : Permission) → permission_in role is k ≡ Some p → Chosen k p
chosen Admin is k p e =
    let base : Permission = record { columns = []; filter = always; limit = None; aggregations = true; masks = [] } in
    let made = with_is base (named_columns k) p e in
    (subst (λ (cs : List ℕ). Sub cs (named_columns k)) (sym made.0) (sub_same (named_columns k)), made.1)
chosen (Named name) is k p e = by (own_permission k name) refl e
  where
    by : (o : Option Permission) → own_permission k name ≡ o → or_inherited o k (set_of is name) ≡ Some p → Chosen k p
    by None at f = set_chosen k (permissions_of k (set_of is name)) p f
    by (Some q) at f = own_chosen name k p (at ∙ f)

pub granted : (tables : List Table) (m : MetaTree) (role : Role) (k : TrackedTree) → tracked_table m k.table ≡ Some k → (t : ShownTable) → shown_entry tables m role k ≡ Some t → Granted tables k t
granted tables m role k first t e = by (slice_get tables k.table) (permission_in role m.inherited k) refl refl given
  where
    given : option_and_then (λ (u : Table). option_map (shown_table k u) (permission_in role m.inherited k)) (slice_get tables k.table) ≡ Some t
    given =
        ap
        (λ (o : Option TrackedTree). option_and_then
        (λ (u : Table). option_map (shown_table k u) (option_and_then (permission_in role m.inherited) o)) (slice_get tables k.table))
        (sym first)
        ∙ e

    by : (u : Option Table) (p : Option Permission) → slice_get tables k.table ≡ u → permission_in role m.inherited k ≡ p
        → option_and_then (λ (u : Table). option_map (shown_table k u) p) u ≡ Some t → Granted tables k t
    by None p here allowed e = cc
    by (Some u) None here allowed e = cc
    by (Some u) (Some p) here allowed e =
        let same : shown_table k u p ≡ t = cc in
        let columns = chosen role m.inherited k p allowed in
        record { table = u; here = here; perm = p; columns = columns.0; some = columns.1; is = sym same }

-- its table stands in the schema of admin
pub has_some : (tables : List Table) (k : TrackedTree) (t : ShownTable) → Granted tables k t → has_columns k ≡ true
has_some tables k t g = any_sub (λ c. true) g.perm.columns (named_columns k) g.columns g.some

pub in_schema_is : (tables : List Table) (m : MetaTree) (k : TrackedTree) (t : ShownTable) → tracked_table m k.table ≡ Some k → Granted tables k t → is_in_schema m t.table ≡ true
in_schema_is tables m k t first g =
    ap (λ (u : ShownTable). is_in_schema m u.table) g.is ∙ (ap in_schema first ∙ has_some tables k t g)
