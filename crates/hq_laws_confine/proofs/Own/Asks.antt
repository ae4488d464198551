-- The statement of a typed request of a session is confined for the session.
use Rattle.std.proofs.Common.{◌≡◌, ℕ, ◌+◌, ◌<◌, ◌≤◌, ◌^◌, List, length, true, ◌==◌, Option, Some, None, is_some, refl, sym, ap, subst, ◌∙◌}
use Rattle.std.specs.Prelude.{slice_get}
use Rattle.std.specs.List.{list_any}
use Rattle.std.proofs.lemmas.Bool.{and_parts, false≢true}
use Rattle.std.proofs.lemmas.Option.{slice_get_within}
use Rattle.hq_base.specs.Lists.{Each}
use Rattle.hq_base.proofs.Lists.{each_weaken}
use Rattle.hq_model.specs.Catalog.{is_catalog}
use Rattle.hq_model.specs.Fits.{fits}
use Rattle.hq_model.specs.Grants.{Grants, grant, grants_of}
use Rattle.hq_model.specs.Laws.{PermissionsFit}
use Rattle.hq_model.specs.Meta.{MetaTree}
use Rattle.hq_model.specs.Permission.{Permission, permission, role_of}
use Rattle.hq_model.specs.Schema.{Schema, schema_of, schema_table, table, rel}
use Rattle.hq_model.specs.declared.meta.Rel.{Rel}
use Rattle.hq_model.specs.declared.session.Session.{Session}
use Rattle.hq_model.specs.declared.table.Table.{Table}
use Rattle.hq_request_tree.specs.Allowed as ask
use Rattle.hq_request_tree.specs.Allowed.{allowed_to, permitted_columns}
use Rattle.hq_request_tree.specs.Fields.{FieldTrees}
use Rattle.hq_request_tree.specs.Request.{AskTree, grants_in}
use Rattle.hq_request_tree.specs.Root.{table_fields}
use Rattle.hq_request_tree.specs.Touched.{tables_of}
use Rattle.hq_request_tree.specs.Uses.{UsesAll}
use Rattle.hq_request_tree.specs.WellFormed.{IsRequest}
use Rattle.hq_translation.specs.Asked.{table_request, TablesAsked}
use Rattle.hq_translation.specs.Correct.{AreFew}
use Rattle.hq_translation.specs.Fields.{fields_numbers}
use Rattle.hq_translation.specs.Fine.{Has}
use Rattle.hq_translation.specs.GrantedTables.{granted_of}
use Rattle.hq_confine_rules.specs.Faults.{faults}
use Rattle.hq_confine_rules.specs.Laws.{AsksConfined}
use Rattle.hq_confine_rules.specs.Members.{is_permitted}
use Rattle.hq_confine_rules.specs.Ready.{Ready, AllowedFields}
use Rattle.hq_laws_confine.specs.Own.Asks.{AsksAreConfined}
use Rattle.hq_laws_confine.proofs.Own.Granted as granting
use Rattle.hq_laws_confine.proofs.Own.Granted.{Touches, IsGranted, all_touched, same_grant, is_granted, column_granted}
use Rattle.hq_laws_confine.proofs.Own.Places.{numbered_length}
use Rattle.hq_laws_confine.proofs.Own.Same.{fields_numbers_same, statement_same}
use Rattle.hq_laws_confine.proofs.Own.Using.{fields_allowed}

module _ (tables : List Table) (m : MetaTree) (session : Session) (a : AskTree) (catalog : is_catalog tables ≡ true) (fitting : fits tables m ≡ true)
    (fit : (t : ℕ) → PermissionsFit tables m (role_of session.role) t) (role : a.role ≡ role_of session.role) where
  abbrev s : Schema
  s = schema_of tables m

  abbrev g : Grants
  g = grants_of session tables m

  abbrev ok : ask.Allowed
  ok = allowed_to a.role m s

  abbrev B : ℕ → Type 0
  B t = Touches tables m session a t

  granted : (t : ℕ) → ok.rows t ≡ true → B t → IsGranted tables m session a t
  granted t h b = is_granted tables m session a role t h b

  ready : (t : ℕ) → ok.rows t ≡ true → B t → Ready s g t
  ready t h b = granting.ready tables m session a catalog fitting fit t (granted t h b)

  leads : (t r : ℕ) → ok.relationship t r ≡ true → (r < length (table s t).rels) × (ok.rows (rel s t r).remote ≡ true)
  leads t r h =
      let parts = and_parts _ _ h in
      let go : (o : Option Rel) → slice_get (table s t).rels r ≡ o → is_some o ≡ true → r < length (table s t).rels =
      elim [ None ↦ λ e f. absurd (false≢true f) | Some x ↦ λ e f. slice_get_within (table s t).rels r x e ] in
      (go (slice_get (table s t).rels r) refl parts.0, parts.1)

  permits : (t c : ℕ) → ok.column t c ≡ true → B t → Has s t c × (is_permitted (grant g t) c ≡ true)
  permits t c h b =
      let some : (o : Option Permission) → permission a.role m t ≡ o → list_any (λ d. d == c) (permitted_columns o) ≡ true → ok.rows t ≡ true =
      elim [ None ↦ λ e f. absurd (false≢true f) | Some q ↦ λ e f. ap is_some e ] in
      let i : IsGranted tables m session a t = granted t (some (permission a.role m t) refl h) b in
      let told : permission a.role m t ≡ Some i.told = ap (λ r. permission r m t) role ∙ i.is in
      column_granted tables m session a catalog fitting fit t c i (sym (ap (λ o. list_any (λ d. d == c) (permitted_columns o)) told) ∙ h)

  -- the table fields ask for what is granted
  asks_allowed : (fs : FieldTrees) → UsesAll fs s ok (length s) → Each B (tables_of fs s (length s)) → AreFew fs s (length s) → AllowedFields fs s g (length s)
  asks_allowed fs uses touched few = fields_allowed s g ok B ready leads permits fs (length s) uses touched few

pub asks_confined : (tables : List Table) (m : MetaTree) (session : Session) (a : AskTree) → TablesAsked tables m a → ((t : ℕ) → PermissionsFit tables m (role_of session.role) t)
    → ((fs : FieldTrees) (s : Schema) (g : Grants) → AsksConfined fs s g) → AsksAreConfined tables m session a
asks_confined tables m session a asked fit law catalog fitting request is held =
    let s : Schema = schema_of tables m in
    let g : Grants = grants_of session tables m in
    let given : Grants = grants_in a m s in
    let fs : FieldTrees = table_fields a.fields in
    let r : IsRequest tables m (table_request a) = asked request in
    let long : length tables ≡ length s = sym (numbered_length (schema_table m) 0 tables) in
    let uses : UsesAll fs s (allowed_to a.role m s) (length s) = subst (UsesAll fs s (allowed_to a.role m s)) long r.uses in
    let touched : Each (Touches tables m session a) (tables_of fs s (length s)) =
    subst (λ n. Each (Touches tables m session a) (tables_of fs s n)) long (all_touched tables m session a is (tables_of fs s (length tables)) r.touched) in
    let same : Each (λ t. grant given t ≡ grant g t) (tables_of fs s (length s)) =
    each_weaken (Touches tables m session a) (λ t. grant given t ≡ grant g t) (same_grant tables m session a) (tables_of fs s (length s)) touched in
    let allowed : AllowedFields fs s g (length s) = asks_allowed tables m session a catalog fitting fit is.role fs uses touched held.1 in
    let small : 1 + fields_numbers fs s (granted_of g) (length s) ≤ 2 ^ 64 = subst (λ n. 1 + n ≤ 2 ^ 64) (fields_numbers_same s given g fs (length s) same) held.0 in
    ap (faults s g) (statement_same s given g fs same) ∙ law fs s g allowed small
