-- Laws of permissions.
use Rattle.std.specs.Prelude.{◌≡◌, ℕ, suc, ◌≤◌, ◌<◌, List, length, true, Some, is_some, is_ok}
use Rattle.hq_base.specs.Lists.{Each}
use Rattle.hq_model.specs.Bexp.{BexpTree, depth}
use Rattle.hq_model.specs.Binding.{bound, bound_masks}
use Rattle.hq_model.specs.Filters.{column_ty, is_filter}
use Rattle.hq_model.specs.Fits.{fits}
use Rattle.hq_model.specs.Meta.{MetaTree, TrackedTree}
use Rattle.hq_model.specs.Permission.{Mask, Permission, permission, permission_in}
use Rattle.hq_model.specs.Schema.{Schema, schema_of}
use Rattle.hq_model.specs.declared.meta.Inherited.{Inherited}
use Rattle.hq_model.specs.declared.role.Role.{Role}
use Rattle.hq_model.specs.declared.session.Var.{Var}
use Rattle.hq_model.specs.declared.table.Table.{Table}

-- where the filter of a permission binds, its masks bind: a mask has no operand that the filter lacks
abbrev pub MasksBind : Role → MetaTree → Schema → List Var → ℕ → Type 0
MasksBind role m s vars t =
    (p : Permission) → permission role m t ≡ Some p → is_ok (bound p.filter s vars t) ≡ true → is_ok (bound_masks p.masks s vars t) ≡ true

-- filters and masks are at most one level deeper than the filters of the entries that they are made of
abbrev pub AreLow : Role → List Inherited → TrackedTree → ℕ → Type 0
AreLow role is k n =
    Each (λ p. depth p.filter ≤ n) k.perms → (p : Permission) → permission_in role is k ≡ Some p → (depth p.filter ≤ suc n) × Each (λ m. depth m.shown ≤ suc n) p.masks

-- a column of table t
abbrev pub HasColumn : Schema → ℕ → ℕ → Type 0
HasColumn s t c = is_some (column_ty s t c) ≡ true

-- a filter over table t; the metadata has them at most 300 deep, and several joined are one level deeper
abbrev pub IsLowFilter : Schema → ℕ → BexpTree → Type 0
IsLowFilter s t b = (is_filter b s t ≡ true) × (depth b ≤ 301)

-- a mask of table t: a column of it, and a filter over it
abbrev pub IsMask : Schema → ℕ → Mask → Type 0
IsMask s t m = HasColumn s t m.column × IsLowFilter s t m.shown

-- a permission on table t: the table, its columns and those of its masks are there, and its filter and masks are filters over it
pub record IsPermission (s : Schema) (t : ℕ) (p : Permission) : Type 0 where
  pub there : t < length s
  pub columns : Each (HasColumn s t) p.columns
  pub filter : IsLowFilter s t p.filter
  pub masks : Each (IsMask s t) p.masks

-- where the metadata fits the catalog, what a role may see of a table is there
abbrev pub PermissionsFit : List Table → MetaTree → Role → ℕ → Type 0
PermissionsFit tables m role t = fits tables m ≡ true → (p : Permission) → permission role m t ≡ Some p → IsPermission (schema_of tables m) t p
