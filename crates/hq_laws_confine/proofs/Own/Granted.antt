-- What is granted of a table that a request of a session touches: it is the session's, and it is ready to be used.
use Rattle.std.proofs.Common.{◌≡◌, ℕ, ◌<◌, List, [], ◌∷◌, map, find, length, Bool, true, false, cond, ◌||◌, ◌==◌, Option, Some, None, is_some, Result, Ok, Err, refl, sym, ap, subst, ◌∙◌, eqb-true}
use Rattle.std.specs.Prelude.{option_map, option_and_then, slice_get, slice_index_or, unwrap_or}
use Rattle.std.specs.List.{list_any}
use Rattle.std.specs.Result.{result_ok}
use Rattle.std.proofs.lemmas.Bool.{false≢true}
use Rattle.std.proofs.lemmas.Option.{unwrap_or-slice_get, slice_get-get_or, slice_get_within}
use Rattle.hq_base.specs.Lists.{Each, firsts}
use Rattle.hq_base.proofs.Lists.{each_weaken, any_map_of, firsts_any}
use Rattle.hq_model.specs.Binding.{bound_permission}
use Rattle.hq_model.specs.Catalog.{is_catalog}
use Rattle.hq_model.specs.Fits.{fits}
use Rattle.hq_model.specs.Grants.{Grants, grant, grant_of, grants_of, no_grant}
use Rattle.hq_model.specs.Laws.{HasColumn, PermissionsFit}
use Rattle.hq_model.specs.Meta.{MetaTree}
use Rattle.hq_model.specs.Permission.{Mask, Permission, permission, role_of}
use Rattle.hq_model.specs.Permitted.{mask_of}
use Rattle.hq_model.specs.Schema.{Schema, SchemaTable, schema_of, table, no_table}
use Rattle.hq_model.specs.declared.bind.BindRefusal.{BindRefusal}
use Rattle.hq_model.specs.declared.session.Session.{Session}
use Rattle.hq_model.specs.declared.table.Column.{Column}
use Rattle.hq_model.specs.declared.table.Table.{Table}
use Rattle.hq_model.proofs.Places.{at_0}
use Rattle.hq_request_tree.specs.Request.{BoundTree, AskTree, bound_table, with_bound, grant_in, grants_in}
use Rattle.hq_request_tree.specs.Sessions.{IsFor, session_grant}
use Rattle.hq_translation.specs.Fine.{Has}
use Rattle.hq_confine_rules.specs.Members.{is_permitted}
use Rattle.hq_confine_rules.specs.Ready.{IsMask, Ready}
use Rattle.hq_laws_confine.proofs.Own.Masked.{AreMasks, columns_of, among_itself, permission_masks, bound_keeps, own_of_each}
use Rattle.hq_laws_confine.proofs.Own.Places.{stands}

-- ---- lists

each_mapped : {A B : Type 0} (P : B → Type 0) (f : A → B) (xs : List A) → Each (λ x. P (f x)) xs → Each P (map f xs)
each_mapped P f [] h = tt
each_mapped P f (x ∷ xs) h = (h.0, each_mapped P f xs h.1)

-- what holds of each holds of one that is among them
pub holds_among : (P : ℕ → Type 0) (ts : List ℕ) (t : ℕ) → Each P ts → list_any (λ u. u == t) ts ≡ true → P t
holds_among P [] t h is = absurd (false≢true is)
holds_among P (x ∷ xs) t h is =
    let go : (b : Bool) → (x == t) ≡ b → (b || list_any (λ u. u == t) xs) ≡ true → P t =
    elim [ true ↦ λ e g. subst P (eqb-true x t e) h.0 | false ↦ λ e g. holds_among P xs t h.1 g ] in
    go (x == t) refl is

-- what holds of the first of each group of places holds of all places
pub each_of_firsts : (P : ℕ → Type 0) (ts : List ℕ) → Each P (firsts (λ t u. t == u) ts) → Each P ts
each_of_firsts P ts h =
    each_weaken (λ t. list_any (λ u. u == t) ts ≡ true) P
    (λ t among. holds_among P (firsts (λ u v. u == v) ts) t h (firsts_any (λ u v. u == v) (λ u. u == t) (λ x y same. ap (λ z. z == t) (eqb-true x y same)) ts ∙ among))
    ts (among_itself ts)

found_among : (bs : List BoundTree) (t : ℕ) → is_some (find (λ b. b.table == t) bs) ≡ list_any (λ u. u == t) (map (λ b. b.table) bs)
found_among [] t = refl
found_among (b ∷ bs) t =
    let later = found_among bs t in
    let go : (e : Bool) → is_some (cond e (Some b) (find (λ c. c.table == t) bs)) ≡ (e || list_any (λ u. u == t) (map (λ c. c.table) bs)) = elim [ true ↦ refl | false ↦ later ] in
    go (b.table == t)

module _ (tables : List Table) (m : MetaTree) (session : Session) (a : AskTree) where
  abbrev s : Schema
  s = schema_of tables m

  abbrev g : Grants
  g = grants_of session tables m

  -- a touched table: what is granted of it is what the session is granted, and it is bound
  pub record Touches (t : ℕ) : Type 0 where
    pub same : grant_in a m t ≡ session_grant session m s t
    pub bound : is_some (bound_table a.bound t) ≡ true

  pub all_touched : IsFor s m session a → (ts : List ℕ) → map (λ b. b.table) a.bound ≡ firsts (λ t u. t == u) ts → Each Touches ts
  all_touched is ts touched =
      let us : List ℕ = map (λ b. b.table) a.bound in
      let same : Each (λ t. grant_in a m t ≡ session_grant session m s t) us = each_mapped (λ t. grant_in a m t ≡ session_grant session m s t) (λ b. b.table) a.bound is.bound in
      let each : Each Touches us =
      each_weaken (λ t. list_any (λ u. u == t) us ≡ true) Touches
      (λ t among. record { same = holds_among (λ u. grant_in a m u ≡ session_grant session m s u) us t same among; bound = found_among a.bound t ∙ among }) us (among_itself us) in
      each_of_firsts Touches ts (subst (Each Touches) touched each)

  -- the grant on a table of the schema
  granted_at : (t : ℕ) → t < length s → slice_index_or g t None ≡ session_grant session m s t
  granted_at t lt =
      sym (unwrap_or-slice_get g t None) ∙ ap (λ o. unwrap_or o None) (at_0 (grant_of session m s) s t)
      ∙ ap (λ o. unwrap_or (option_map (grant_of session m s t) o) None) (slice_get-get_or s t no_table lt)

  -- what is granted of a table is the same by the request and by the session
  pub same_grant : (t : ℕ) → Touches t → grant (grants_in a m s) t ≡ grant g t
  same_grant t h =
      let go : (o : Option SchemaTable) → unwrap_or (option_map (λ x. grant_in a m t) o) None ≡ unwrap_or (option_map (grant_of session m s t) o) None =
      elim [ None ↦ refl | Some x ↦ h.same ] in
      ap (λ o. unwrap_or o no_grant)
      (sym (unwrap_or-slice_get (grants_in a m s) t None) ∙ ap (λ o. unwrap_or o None) (at_0 (λ u x. grant_in a m u) s t)
      ∙ go (slice_get s t)
      ∙ sym (ap (λ o. unwrap_or o None) (at_0 (grant_of session m s) s t)) ∙ unwrap_or-slice_get g t None)

  -- the role's permission, and what is bound of it for the session
  pub record IsGranted (t : ℕ) : Type 0 where
    pub told : Permission
    pub is : permission (role_of session.role) m t ≡ Some told
    pub given : Permission
    pub binds : bound_permission told s session.vars t ≡ Ok given
    pub grants : session_grant session m s t ≡ Some given

  pub is_granted : a.role ≡ role_of session.role → (t : ℕ) → is_some (permission a.role m t) ≡ true → Touches t → IsGranted t
  is_granted role t some h =
      let of_bind : (q : Permission) → permission (role_of session.role) m t ≡ Some q → (r : Result Permission BindRefusal) → bound_permission q s session.vars t ≡ r
      → is_some (result_ok r) ≡ true → IsGranted t =
      λ q is. elim [
        | Ok p ↦ λ e f. record {
          told = q;
          is = is;
          given = p;
          binds = e;
          grants = ap (option_and_then (λ x. result_ok (bound_permission x s session.vars t))) is ∙ ap result_ok e;
        }
        | Err r ↦ λ e f. absurd (false≢true f)
      ] in
      let of_role : (o : Option Permission) → permission a.role m t ≡ o → is_some o ≡ true → IsGranted t =
      elim [
        | None ↦ λ e f. absurd (false≢true f)
        | Some q ↦ λ e f.
            let is : permission (role_of session.role) m t ≡ Some q = ap (λ r. permission r m t) (sym role) ∙ e in
            let bound : is_some (option_map (with_bound q) (bound_table a.bound t)) ≡ true = mapped_some (with_bound q) (bound_table a.bound t) h.bound in
            let own : grant_in a m t ≡ option_map (with_bound q) (bound_table a.bound t) = ap (option_and_then (λ p. option_map (with_bound p) (bound_table a.bound t))) e in
            let whole : session_grant session m s t ≡ result_ok (bound_permission q s session.vars t) = ap (option_and_then (λ x. result_ok (bound_permission x s session.vars t))) is in
            let binds : is_some (result_ok (bound_permission q s session.vars t)) ≡ true = ap is_some (sym whole ∙ sym h.same ∙ own) ∙ bound in
            of_bind q is (bound_permission q s session.vars t) refl binds
      ] in
      of_role (permission a.role m t) refl some
    where
      mapped_some : {A B : Type 0} (f : A → B) (o : Option A) → is_some o ≡ true → is_some (option_map f o) ≡ true
      mapped_some f None e = e
      mapped_some f (Some x) e = refl

  module _ (catalog : is_catalog tables ≡ true) (fitting : fits tables m ≡ true) (fit : (t : ℕ) → PermissionsFit tables m (role_of session.role) t) where
    -- a column that has a type is there
    has_column : (t c : ℕ) → HasColumn s t c → Has s t c
    has_column t c h = has (table s t).columns c h
      where
        has : (cs : List Column) (c : ℕ) → is_some (option_map (λ x. x.ty) (slice_get cs c)) ≡ true → c < length cs
        has cs c e =
            let go : (o : Option Column) → slice_get cs c ≡ o → is_some (option_map (λ x. x.ty) o) ≡ true → c < length cs =
            elim [ None ↦ λ f k. absurd (false≢true k) | Some x ↦ λ f k. slice_get_within cs c x f ] in
            go (slice_get cs c) refl e

    -- all that is granted of a table is of columns that are there
    columns_there : (t : ℕ) → (i : IsGranted t) → Each (Has s t) i.given.columns
    columns_there t i =
        subst (Each (Has s t)) (bound_keeps s session.vars t i.told i.given i.binds).0
        (each_weaken (HasColumn s t) (Has s t) (has_column t) i.told.columns (fit t fitting i.told i.is).columns)

    -- a permitted column of a touched table
    pub column_granted : (t c : ℕ) → (i : IsGranted t) → list_any (λ d. d == c) i.told.columns ≡ true → Has s t c × (is_permitted (grant g t) c ≡ true)
    column_granted t c i h =
        let lt : t < length s = (fit t fitting i.told i.is).there in
        let is : grant g t ≡ i.given = ap (λ o. unwrap_or o no_grant) (granted_at t lt ∙ i.grants) in
        let kept : i.told.columns ≡ i.given.columns = (bound_keeps s session.vars t i.told i.given i.binds).0 in (
          has_column t c (holds_among (HasColumn s t) i.told.columns c (fit t fitting i.told i.is).columns h),
          ap (λ (p : Permission). list_any (λ d. d == c) p.columns) is ∙ sym (ap (list_any (λ d. d == c)) kept) ∙ h,
        )

    pub ready : (t : ℕ) → IsGranted t → Ready s g t
    ready t i =
        let lt : t < length s = (fit t fitting i.told i.is).there in
        let at : slice_index_or g t None ≡ Some i.given = granted_at t lt ∙ i.grants in
        let is : grant g t ≡ i.given = ap (λ o. unwrap_or o no_grant) at in
        let stand = stands tables m t catalog lt in
        let kept = bound_keeps s session.vars t i.told i.given i.binds in
        let own = permission_masks (role_of session.role) m t i.told i.is in
        let masks : AreMasks i.given.columns (columns_of i.given.masks) =
        subst (λ cs. AreMasks cs (columns_of i.given.masks)) kept.0 (subst (λ cs. AreMasks i.told.columns cs) kept.1 own) in
        record {
          place = stand.place;
          granted = ap is_some at;
          names = stand.names;
          key = stand.key;
          first = stand.is_key.first;
          rest = stand.is_key.rest;
          keyed = stand.is_key.keyed;
          differ = stand.is_key.differ;
          masks = subst (Each (IsMask s g t)) (sym (ap (λ (p : Permission). p.masks) is))
              (all_masks t i is i.given.masks (ap (λ (p : Permission). p.masks) is) masks.among (among_itself (columns_of i.given.masks)) (own_of_each i.given.masks masks.rise));
        }
      where
        all_masks : (t : ℕ) (i : IsGranted t) → grant g t ≡ i.given → (ms : List Mask) → (grant g t).masks ≡ i.given.masks → Each (λ c. list_any (λ d. d == c) i.given.columns ≡ true) (columns_of ms)
            → Each (λ c. list_any (λ d. d == c) (columns_of i.given.masks) ≡ true) (columns_of ms) → Each (λ x. mask_of i.given.masks x.column ≡ x.shown) ms → Each (IsMask s g t) ms
        all_masks t i is [] same among masked own = tt
        all_masks t i is (x ∷ ms) same among masked own = (
          record {
            has = holds_among (Has s t) i.given.columns x.column (columns_there t i) among.0;
            permitted = ap (λ (p : Permission). list_any (λ d. d == x.column) p.columns) is ∙ among.0;
            masked = ap (λ l. list_any (λ y. y.column == x.column) l) same ∙ sym (any_map_of (λ d. d == x.column) (λ (y : Mask). y.column) i.given.masks) ∙ masked.0;
            is = ap (λ l. mask_of l x.column) same ∙ own.0;
          },
          all_masks t i is ms same among.1 masked.1 own.1,
        )
