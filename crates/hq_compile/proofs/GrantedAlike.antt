-- What is kept of a request's grants is what the request grants.
use Rattle.std.proofs.Common.{◌≡◌, ℕ, List, [], ◌∷◌, ◌++◌, find, map, Bool, true, false, cond, ◌==◌, Option, Some, None, refl, sym, ap, ap₂, subst, ◌∙◌}
use mathlib.Core.Path.{fun_ext}
use Rattle.std.specs.Prelude.{option_map, option_and_then, slice_get, unwrap_or}
use Rattle.std.proofs.lemmas.Bool.{eqb-true}
use Rattle.std.proofs.lemmas.Option.{unwrap_or-slice_get}
use Rattle.hq_model.specs.Bexp.{BexpTree, bexp_view, never}
use Rattle.hq_model.specs.Grants.{grant, no_grant}
use Rattle.hq_model.specs.Meta.{MetaTree}
use Rattle.hq_model.specs.PermView.{mask_view}
use Rattle.hq_model.specs.Permission.{Mask, Permission, option_list, permission}
use Rattle.hq_model.specs.Schema.{Schema, schema_of, schema_table}
use Rattle.hq_model.specs.declared.role.Role.{Role}
use Rattle.hq_model.specs.declared.table.Table.{Table}
use Rattle.hq_model.proofs.Places.{at_0}
use Rattle.hq_request_tree.specs.Request.{BoundTree, AskTree, bound_table, with_bound, grant_in, grants_in}
use Rattle.hq_translation.specs.GrantedTables.{granted_of}
use Rattle.hq_compile_tables.specs.Contexts.{granted_in}
use Rattle.hq_compile_tables.specs.declared.context.Granted.{Granted}
use Rattle.hq_compile.specs.GrantedTrees.{GrantedTree, granted_view, granted_under, granted_for, granted_all}

-- the first entry that passes a test of what it is seen as
seen_first : (t : ℕ) (gs : List Granted) → find (λ v. v.table == t) (map granted_view gs) ≡ option_map granted_view (find (λ g. g.table == t) gs)
seen_first t [] = refl
seen_first t (g ∷ gs) =
    let by : (b : Bool) → cond b (Some (granted_view g)) (find (λ v. v.table == t) (map granted_view gs)) ≡ option_map granted_view (cond b (Some g) (find (λ g. g.table == t) gs)) =
    elim [ true ↦ refl | false ↦ seen_first t gs ] in
    by (g.table == t)

-- what is granted under what is bound for a table, where the catalog has the table and the role a permission
abbrev Under : Option Table → Option Permission → BoundTree → Option GrantedTree
Under X P b = option_and_then (λ x. option_map (granted_under b) P) X

abbrev At : Option Table → Option Permission → Option BoundTree → Option GrantedTree
At X P None = None
At X P (Some b) = Under X P b

no_table_none : (P : Option Permission) (o : Option BoundTree) → At None P o ≡ None
no_table_none P None = refl
no_table_none P (Some b) = refl

no_permission_none : (x : Table) (o : Option BoundTree) → At (Some x) None o ≡ None
no_permission_none x None = refl
no_permission_none x (Some b) = refl

module _ (t : ℕ) where
  abbrev first : List GrantedTree → Option GrantedTree
  first vs = find (λ v. v.table == t) vs

  -- an entry of another table is passed over
  skipped : (Y : Option Table) (Q : Option Permission) (b : BoundTree) (rest : List GrantedTree) → (b.table == t) ≡ false → first (option_list (Under Y Q b) ++ rest) ≡ first rest
  skipped None Q b rest e = refl
  skipped (Some y) None b rest e = refl
  skipped (Some y) (Some q) b rest e = ap (λ c. cond c (Some (granted_under b q)) (first rest)) e

  -- one of the table itself is taken, where something is granted
  taken : (X : Option Table) (P : Option Permission) (b : BoundTree) (rest : List GrantedTree) (o : Option BoundTree)
      → (b.table == t) ≡ true → first rest ≡ At X P o → first (option_list (Under X P b) ++ rest) ≡ Under X P b
  taken None P b rest o e later = later ∙ no_table_none P o
  taken (Some x) None b rest o e later = later ∙ no_permission_none x o
  taken (Some x) (Some p) b rest o e later = ap (λ c. cond c (Some (granted_under b p)) (first rest)) e

  module _ (role : Role) (tables : List Table) (m : MetaTree) where
    found_all : (bs : List BoundTree) → first (granted_all role tables m bs) ≡ At (slice_get tables t) (permission role m t) (bound_table bs t)
    found_all [] = refl
    found_all (b ∷ bs) =
        let X : Option Table = slice_get tables t in
        let P : Option Permission = permission role m t in
        let rest : List GrantedTree = granted_all role tables m bs in
        let by : (c : Bool) → (b.table == t) ≡ c → first (option_list (granted_for role tables m b) ++ rest) ≡ At X P (cond c (Some b) (bound_table bs t)) =
        elim [
          | true ↦ λ e.
              subst (λ (u : ℕ). first (option_list (Under (slice_get tables u) (permission role m u) b) ++ rest) ≡ Under X P b) (sym (eqb-true b.table t e))
              (taken X P b rest (bound_table bs t) e (found_all bs))
          | false ↦ λ e. skipped (slice_get tables b.table) (permission role m b.table) b rest e ∙ found_all bs
        ] in
        by (b.table == t) refl

-- ---- what is granted of a table

abbrev granted_as : Option Table → Option Permission → Option BoundTree → Permission
granted_as X P o = unwrap_or (unwrap_or (option_map (λ x. option_and_then (λ p. option_map (with_bound p) o) P) X) None) no_grant

filter_as : (X : Option Table) (P : Option Permission) (o : Option BoundTree) → unwrap_or (option_map (λ v. v.filter) (At X P o)) never ≡ (granted_as X P o).filter
filter_as None P None = refl
filter_as None P (Some b) = refl
filter_as (Some x) None None = refl
filter_as (Some x) None (Some b) = refl
filter_as (Some x) (Some p) None = refl
filter_as (Some x) (Some p) (Some b) = refl

limit_as : (X : Option Table) (P : Option Permission) (o : Option BoundTree) → option_and_then (λ v. v.limit) (At X P o) ≡ (granted_as X P o).limit
limit_as None P None = refl
limit_as None P (Some b) = refl
limit_as (Some x) None None = refl
limit_as (Some x) None (Some b) = refl
limit_as (Some x) (Some p) None = refl
limit_as (Some x) (Some p) (Some b) = refl

masks_as : (X : Option Table) (P : Option Permission) (o : Option BoundTree) → unwrap_or (option_map (λ v. v.masks) (At X P o)) [] ≡ (granted_as X P o).masks
masks_as None P None = refl
masks_as None P (Some b) = refl
masks_as (Some x) None None = refl
masks_as (Some x) None (Some b) = refl
masks_as (Some x) (Some p) None = refl
masks_as (Some x) (Some p) (Some b) = refl

filter_seen : (o : Option Granted) → unwrap_or (option_map (λ g. bexp_view g.filter) o) never ≡ unwrap_or (option_map (λ v. v.filter) (option_map granted_view o)) never
filter_seen None = refl
filter_seen (Some g) = refl

limit_seen : (o : Option Granted) → option_and_then (λ g. g.limit) o ≡ option_and_then (λ v. v.limit) (option_map granted_view o)
limit_seen None = refl
limit_seen (Some g) = refl

masks_seen : (o : Option Granted) → unwrap_or (option_map (λ g. map mask_view g.masks.items) o) [] ≡ unwrap_or (option_map (λ v. v.masks) (option_map granted_view o)) []
masks_seen None = refl
masks_seen (Some g) = refl

module _ (tables : List Table) (m : MetaTree) (a : AskTree) (gs : List Granted) (is : map granted_view gs ≡ granted_all a.role tables m a.bound) where
  abbrev s : Schema
  s = schema_of tables m

  -- the grant on a table
  grant_as : (t : ℕ) → granted_as (slice_get tables t) (permission a.role m t) (bound_table a.bound t) ≡ grant (grants_in a m s) t
  grant_as t =
      let by : (o : Option Table) → option_map (λ x. grant_in a m t) o ≡ option_map (λ x. grant_in a m t) (option_map (schema_table m t) o) = elim [ None ↦ refl | Some x ↦ refl ] in
      ap (λ o. unwrap_or (unwrap_or o None) no_grant) (by (slice_get tables t) ∙ ap (option_map (λ x. grant_in a m t)) (sym (at_0 (schema_table m) tables t)) ∙ sym (at_0 (λ u x. grant_in a m u) s t))
      ∙ ap (λ o. unwrap_or o no_grant) (unwrap_or-slice_get (grants_in a m s) t None)

  first_as : (t : ℕ) → option_map granted_view (find (λ g. g.table == t) gs) ≡ At (slice_get tables t) (permission a.role m t) (bound_table a.bound t)
  first_as t = sym (seen_first t gs) ∙ ap (find (λ v. v.table == t)) is ∙ found_all t a.role tables m a.bound

  filters : (t : ℕ) → (granted_in gs).filter t ≡ (granted_of (grants_in a m s)).filter t
  filters t =
      filter_seen (find (λ g. g.table == t) gs) ∙ ap (λ o. unwrap_or (option_map (λ v. v.filter) o) never) (first_as t)
      ∙ filter_as (slice_get tables t) (permission a.role m t) (bound_table a.bound t) ∙ ap (λ (p : Permission). p.filter) (grant_as t)

  limits : (t : ℕ) → (granted_in gs).limit t ≡ (granted_of (grants_in a m s)).limit t
  limits t =
      limit_seen (find (λ g. g.table == t) gs) ∙ ap (option_and_then (λ v. v.limit)) (first_as t)
      ∙ limit_as (slice_get tables t) (permission a.role m t) (bound_table a.bound t) ∙ ap (λ (p : Permission). p.limit) (grant_as t)

  masks : (t : ℕ) → (granted_in gs).masks t ≡ (granted_of (grants_in a m s)).masks t
  masks t =
      masks_seen (find (λ g. g.table == t) gs) ∙ ap (λ o. unwrap_or (option_map (λ v. v.masks) o) []) (first_as t)
      ∙ masks_as (slice_get tables t) (permission a.role m t) (bound_table a.bound t) ∙ ap (λ (p : Permission). p.masks) (grant_as t)

  -- all that is granted
  pub granted_alike : granted_in gs ≡ granted_of (grants_in a m s)
  granted_alike =
      ap₂ (λ (f : ℕ → BexpTree) (l : ℕ → Option ℕ). record { filter = f; limit = l; masks = (granted_in gs).masks }) (fun_ext filters) (fun_ext limits)
      ∙ ap (λ (ms : ℕ → List Mask). record { filter = (granted_of (grants_in a m s)).filter; limit = (granted_of (grants_in a m s)).limit; masks = ms }) (fun_ext masks)
