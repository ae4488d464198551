-- What a session is granted of a copied table, and the reader of its copy.
use Rattle.std.proofs.Common.{◌≡◌, ℕ, ◌<◌, List, [], ◌∷◌, length, ◌||◌, ◌==◌, Some, None, Result, Ok, Err, refl, sym, ap, ◌∙◌}
use Rattle.std.proofs.lemmas.Option.{unwrap_or-slice_get, slice_get-get_or}
use Rattle.std.specs.List.{list_any}
use Rattle.std.specs.Prelude.{option_and_then, option_map, slice_index_or, unwrap_or}
use Rattle.std.specs.Result.{result_ok}
use Rattle.hq_base.specs.Due.{and_then, mapped}
use Rattle.hq_model.specs.Bexp.{BexpTree}
use Rattle.hq_model.specs.Binding.{bound, bound_masks, bound_permission}
use Rattle.hq_model.specs.Grants.{grants_of, grant_of}
use Rattle.hq_model.specs.Meta.{MetaTree}
use Rattle.hq_model.specs.Permission.{Mask, Permission, permission, role_of}
use Rattle.hq_model.specs.Schema.{Schema, schema_of, no_table}
use Rattle.hq_model.specs.declared.bind.BindRefusal.{BindRefusal}
use Rattle.hq_model.specs.declared.session.Session.{Session}
use Rattle.hq_model.specs.declared.session.Var.{Var}
use Rattle.hq_model.specs.declared.table.Table.{Table}
use Rattle.hq_model.proofs.Places.{at_0}
use Rattle.hq_copy_definition.specs.Sources.{has_mask}

-- what is granted of a table of the catalog, where its permission binds
pub granted_there : (session : Session) (tables : List Table) (m : MetaTree) (t : ℕ) (p q : Permission) → t < length (schema_of tables m) → permission (role_of session.role) m t ≡ Some p
    → bound_permission p (schema_of tables m) session.vars t ≡ Ok q → slice_index_or (grants_of session tables m) t None ≡ Some q
granted_there session tables m t p q there seen binds =
    let s : Schema = schema_of tables m in
    sym (unwrap_or-slice_get (grants_of session tables m) t None)
    ∙ ap (λ o. unwrap_or o None) (at_0 (grant_of session m s) s t ∙ ap (option_map (grant_of session m s t)) (slice_get-get_or s t no_table there))
    ∙ ap (option_and_then (λ r. result_ok (bound_permission r s session.vars t))) seen
    ∙ ap result_ok binds

-- ---- what binding keeps of a permission

masks_kept : (ms bs : List Mask) (s : Schema) (vars : List Var) (t c : ℕ) → bound_masks ms s vars t ≡ Ok bs → list_any (λ m. m.column == c) bs ≡ list_any (λ m. m.column == c) ms
masks_kept [] bs s vars t c e = let none : bs ≡ [] = cc in ap (list_any (λ m. m.column == c)) none
masks_kept (m ∷ ms) bs s vars t c e =
    let rest : (shown : BexpTree) (r : Result (List Mask) BindRefusal) → bound_masks ms s vars t ≡ r → mapped (λ l. record { column = m.column; shown = shown } ∷ l) r ≡ Ok bs → list_any
    (λ k. k.column == c) bs ≡ list_any (λ k. k.column == c) (m ∷ ms) =
    λ shown. elim [
      | Ok l ↦ λ f g.
          let is : bs ≡ record { column = m.column; shown = shown } ∷ l = cc in
          ap (list_any (λ k. k.column == c)) is ∙ ap (λ b. (m.column == c) || b) (masks_kept ms l s vars t c f)
      | Err x ↦ λ f g. cc
    ] in
    let go : (r : Result BexpTree BindRefusal) → and_then (λ shown. mapped (λ l. record { column = m.column; shown = shown } ∷ l) (bound_masks ms s vars t)) r ≡ Ok bs → list_any
    (λ k. k.column == c) bs ≡ list_any (λ k. k.column == c) (m ∷ ms) =
    elim [ Ok shown ↦ λ g. rest shown (bound_masks ms s vars t) refl g | Err x ↦ λ g. cc ] in
    go (bound m.shown s vars t) e

-- columns and limit, and which columns have masks
pub record KeptBound (p q : Permission) : Type 0 where
  pub columns : q.columns ≡ p.columns
  pub limit : q.limit ≡ p.limit
  pub masked : (c : ℕ) → has_mask q c ≡ has_mask p c

pub kept_bound : (p q : Permission) (s : Schema) (vars : List Var) (t : ℕ) → bound_permission p s vars t ≡ Ok q → KeptBound p q
kept_bound p q s vars t e =
    let rest : (filter : BexpTree) (r : Result (List Mask) BindRefusal) → bound_masks p.masks s vars t ≡ r → mapped (λ ms. record p { filter = filter; masks = ms }) r ≡ Ok q → KeptBound p q =
    λ filter. elim [
      | Ok ms ↦ λ f g.
          let is : q ≡ record p { filter = filter; masks = ms } = cc in record {
            columns = ap (λ r. r.columns) is;
            limit = ap (λ r. r.limit) is;
            masked = λ c. ap (λ r. has_mask r c) is ∙ masks_kept p.masks ms s vars t c f;
          }
      | Err x ↦ λ f g. cc
    ] in
    let go : (r : Result BexpTree BindRefusal) → and_then (λ filter. mapped (λ ms. record p { filter = filter; masks = ms }) (bound_masks p.masks s vars t)) r ≡ Ok q → KeptBound p q =
    elim [ Ok filter ↦ λ g. rest filter (bound_masks p.masks s vars t) refl g | Err x ↦ λ g. cc ] in
    go (bound p.filter s vars t) e
