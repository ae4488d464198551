-- What a typed request grants of a table fits the table, and is nested few enough.
use Rattle.std.proofs.Common.{◌≡◌, ℕ, ◌≤◌, List, [], ◌∷◌, true, ◌==◌, Option, Some, None, is_some, refl, sym, ap, subst, ◌∙◌, arith}
use Rattle.std.specs.Prelude.{option_map, option_and_then, slice_get, unwrap_or}
use Rattle.std.specs.List.{list_all}
use Rattle.std.proofs.lemmas.Bool.{and_parts, eqb-true}
use Rattle.std.proofs.lemmas.Option.{unwrap_or-slice_get}
use Rattle.hq_base.specs.Lists.{Each}
use Rattle.hq_model.specs.Bexp.{depth}
use Rattle.hq_model.specs.Grants.{grant, no_grant}
use Rattle.hq_model.specs.Meta.{MetaTree}
use Rattle.hq_model.specs.Permission.{Mask, Permission, permission}
use Rattle.hq_model.specs.Schema.{Schema, SchemaTable, table}
use Rattle.hq_model.proofs.Places.{at_0}
use Rattle.hq_request_tree.specs.Conditions.{is_condition}
use Rattle.hq_request_tree.specs.WellFormed.{is_bound_mask, is_bound_table}
use Rattle.hq_request_tree.specs.Request.{BoundTree, AskTree, bound_table, with_bound, grant_in, grants_in}
use Rattle.hq_translation.specs.Fine.{FineRel, FineBexp, FineMask}
use Rattle.hq_translation.proofs.Relationships.{found, column_there}
use Rattle.hq_translation.proofs.FineConditions.{condition_fine, condition_low}

-- a permission that fits a table, and is nested few enough
pub record FinePermission (s : Schema) (t : ℕ) (p : Permission) : Type 0 where
  pub filter : FineBexp p.filter s t
  pub low : depth p.filter ≤ 301
  pub masks : Each (FineMask s t) p.masks
  pub low_masks : Each (λ m. depth m.shown ≤ 301) p.masks

none_fine : (s : Schema) (t : ℕ) → FinePermission s t no_grant
none_fine s t = record { filter = tt; low = omega arith; masks = tt; low_masks = tt }

module _ (s : Schema) (rels : (t r : ℕ) → is_some (slice_get (table s t).rels r) ≡ true → FineRel s t r) (m : MetaTree) (a : AskTree)
    (fit : list_all (is_bound_table s) a.bound ≡ true) where
  masks_fine : (t : ℕ) (ms : List Mask) → list_all (is_bound_mask s t) ms ≡ true → Each (FineMask s t) ms
  masks_fine t [] h = tt
  masks_fine t (m ∷ ms) h =
      let parts = and_parts _ _ h in
      let here = and_parts _ _ parts.0 in
      ((column_there s t m.column here.0, condition_fine s rels 301 m.shown t here.1), masks_fine t ms parts.1)

  masks_low : (t : ℕ) (ms : List Mask) → list_all (is_bound_mask s t) ms ≡ true → Each (λ m. depth m.shown ≤ 301) ms
  masks_low t [] h = tt
  masks_low t (m ∷ ms) h =
      let parts = and_parts _ _ h in
      (condition_low 301 m.shown s t (and_parts _ _ parts.0).1, masks_low t ms parts.1)

  bound_fine : (t : ℕ) (p : Permission) (b : BoundTree) → bound_table a.bound t ≡ Some b → FinePermission s t (with_bound p b)
  bound_fine t p b is =
      let at = found (λ c. c.table == t) (is_bound_table s) a.bound b fit is in
      let same : b.table ≡ t = eqb-true b.table t at.0 in
      let parts = and_parts _ _ at.1 in
      let condition : is_condition 301 b.filter s t ≡ true = subst (λ u. is_condition 301 b.filter s u ≡ true) same parts.0 in
      let masks : list_all (is_bound_mask s t) b.masks ≡ true = subst (λ u. list_all (is_bound_mask s u) b.masks ≡ true) same parts.1 in
      record {
        filter = condition_fine s rels 301 b.filter t condition;
        low = condition_low 301 b.filter s t condition;
        masks = masks_fine t b.masks masks;
        low_masks = masks_low t b.masks masks;
      }

  granted_fine : (t : ℕ) → FinePermission s t (unwrap_or (grant_in a m t) no_grant)
  granted_fine t =
      let under : (o : Option Permission) → FinePermission s t (unwrap_or (option_and_then (λ p. option_map (with_bound p) (bound_table a.bound t)) o) no_grant) =
      elim [
        | None ↦ none_fine s t
        | Some p ↦
            let of : (o : Option BoundTree) → bound_table a.bound t ≡ o → FinePermission s t (unwrap_or (option_map (with_bound p) o) no_grant) =
            elim [ None ↦ λ is. none_fine s t | Some b ↦ λ is. bound_fine t p b is ] in
            of (bound_table a.bound t) refl
      ] in
      under (permission a.role m t)

  -- what is granted of any table
  pub grant_fine : (t : ℕ) → FinePermission s t (grant (grants_in a m s) t)
  grant_fine t =
      let by : (o : Option SchemaTable) → FinePermission s t (unwrap_or (unwrap_or (option_map (λ x. grant_in a m t) o) None) no_grant) =
      elim [ None ↦ none_fine s t | Some x ↦ granted_fine t ] in
      subst (λ o. FinePermission s t (unwrap_or o no_grant))
      (ap (λ o. unwrap_or o None) (sym (at_0 (λ u x. grant_in a m u) s t)) ∙ unwrap_or-slice_get (grants_in a m s) t None)
      (by (slice_get s t))
