-- The tables that a role's schema shows are seen, and a key that it shows has permitted columns alone.
use Rattle.std.proofs.Common.{◌≡◌, ◌∙◌, refl, sym, ap, subst, ℕ, ◌+◌, List, [], ◌∷◌, Bool, true, false, cond, ◌==◌, Option, Some, None, is_some, option_map, option_and_then, slice_get}
use Rattle.std.specs.List.{cons_option, filter_map, list_all, list_any}
use Rattle.std.specs.Option.{option_map_or}
use Rattle.hq_base.specs.Lists.{Each}
use Rattle.hq_schema_of_role.specs.Placed.{part_count, placed_from}
use Rattle.hq_schema_of_role.specs.Shown.{shown_columns, shown_table, shown_entry, shown_tables}
use Rattle.hq_schema_of_role.specs.declared.shown.PlacedTable.{PlacedTable}
use Rattle.hq_schema_of_role.specs.declared.shown.ShownColumn.{ShownColumn}
use Rattle.hq_schema_of_role.specs.declared.shown.ShownTable.{ShownTable}
use Rattle.hq_schema_roles.specs.Access.{Access, access_of}
use Rattle.hq_model.specs.Meta.{MetaTree, TrackedTree}
use Rattle.hq_model.specs.Permission.{Permission, permission}
use Rattle.hq_model.specs.Schema.{Schema, schema_of, table}
use Rattle.hq_model.specs.declared.role.Role.{Role}
use Rattle.hq_model.specs.declared.table.Table.{Table}
use Rattle.hq_model.proofs.Places.{table_present}
use Rattle.hq_copy_definition.proofs.Lists.{each_of}
use Rattle.hq_laws_renumbered.specs.Requests.OfRole.{IsKeyed}

module _ (tables : List Table) (m : MetaTree) (role : Role) where
  abbrev s : Schema
  s = schema_of tables m

  abbrev a : Access
  a = access_of m role

  abbrev pub KeyIs : ℕ → Option (List ShownColumn) → Type 0
  KeyIs t None = Unit {0}
  KeyIs t (Some cs) = IsKeyed s a t

  pub record IsShown (x : ShownTable) : Type 0 where
    pub seen : a.seen x.table ≡ true
    pub key : KeyIs x.table x.key

  -- columns that are permitted are those of the permission
  permitted : (t : ℕ) (p : Permission) → permission role m t ≡ Some p → (cs : List ℕ) → Each (λ c. list_any (λ d. d == c) p.columns ≡ true) cs → Each (λ c. a.column t c ≡ true) cs
  permitted t p is [] h = tt
  permitted t p is (c ∷ cs) h =
      (ap (λ o. option_map_or (λ (q : Permission). list_any (λ d. d == c) q.columns) o false) is ∙ h.0, permitted t p is cs h.1)

  table_shown : (k : TrackedTree) (x : Table) (p : Permission) → slice_get tables k.table ≡ Some x → permission role m k.table ≡ Some p → IsShown (shown_table k x p)
  table_shown k x p here is = record { seen = ap is_some is; key = go (list_all (λ c. list_any (λ d. d == c) p.columns) x.key) refl }
    where
      go : (b : Bool) → list_all (λ c. list_any (λ d. d == c) p.columns) x.key ≡ b → KeyIs k.table (cond b (Some (shown_columns x k [] x.key)) None)
      go true kept =
          let same : (table s k.table).key ≡ x.key = ap (λ w. w.key) (table_present tables m k.table x here) in
          subst (Each (λ c. a.column k.table c ≡ true)) (sym same) (permitted k.table p is x.key (each_of (λ c. list_any (λ d. d == c) p.columns) x.key kept))
      go false lost = tt

  each_shown : (ks : List TrackedTree) → Each IsShown (filter_map (shown_entry tables m role) ks)
  each_shown [] = tt
  each_shown (k ∷ ks) = go (slice_get tables k.table) (permission role m k.table) refl refl (each_shown ks)
    where
      go : (o : Option Table) (q : Option Permission) → slice_get tables k.table ≡ o → permission role m k.table ≡ q → Each IsShown (filter_map (shown_entry tables m role) ks)
          → Each IsShown (cons_option (option_and_then (λ x. option_map (shown_table k x) q) o) (filter_map (shown_entry tables m role) ks))
      go None q here is rest = rest
      go (Some x) None here is rest = rest
      go (Some x) (Some p) here is rest = (table_shown k x p here is, rest)

  -- they are placed one after the other
  placed_shown : (first : ℕ) (xs : List ShownTable) → Each IsShown xs → Each (λ (p : PlacedTable). IsShown p.shown) (placed_from first xs)
  placed_shown first [] h = tt
  placed_shown first (x ∷ xs) h = (h.0, placed_shown (first + part_count x) xs h.1)

  pub all_shown : (first : ℕ) → Each (λ (p : PlacedTable). IsShown p.shown) (placed_from first (shown_tables tables m role))
  all_shown first = placed_shown first (shown_tables tables m role) (each_shown m.tracked)
