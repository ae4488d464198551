-- The masks of what is granted of a table are each of another permitted column.
use Rattle.std.proofs.Common.{◌≡◌, ℕ, suc, ◌<◌, ◌≤◌, List, [], ◌∷◌, ◌++◌, map, filter, find, Bool, true, false, cond, ◌||◌, ◌==◌, Option, Some, None, Result, Ok, Err, bytes_eq, refl, sym, ap, subst, ◌∙◌, eq-eqb, arith}
use Rattle.std.specs.List.{list_any, list_all}
use Rattle.std.specs.Prelude.{option_and_then}
use Rattle.std.proofs.lemmas.Bool.{ne_eqb}
use Rattle.hq_base.specs.Due.{and_then, mapped}
use Rattle.hq_base.specs.Lists.{Each}
use Rattle.hq_base.proofs.Lists.{each_weaken}
use Rattle.hq_model.specs.Bexp.{BexpTree, always}
use Rattle.hq_model.specs.Binding.{bound, bound_masks, bound_permission}
use Rattle.hq_model.specs.Meta.{MetaTree, TrackedTree, PermTree, tracked_table}
use Rattle.hq_model.specs.Names.{is_free_name}
use Rattle.hq_model.specs.Permission.{Mask, Permission, with_columns, named_from, named_columns, told_permission, own_permission, permissions_of, either, permits, filters_of, filters_for, limit_of, some_aggregate, masks_for, columns_of_any, combined, set_of, or_inherited, permission_in, permission}
use Rattle.hq_model.specs.Permitted.{mask_of}
use Rattle.hq_model.specs.Schema.{Schema}
use Rattle.hq_model.specs.declared.bind.BindRefusal.{BindRefusal}
use Rattle.hq_model.specs.declared.meta.Inherited.{Inherited}
use Rattle.hq_model.specs.declared.role.Role.{Role}
use Rattle.hq_model.specs.declared.role.Role.TheVariants.{Admin, Named}
use Rattle.hq_model.specs.declared.session.Var.{Var}

-- numbers that rise
abbrev pub Rises : List ℕ → Type 0
Rises [] = Unit {0}
Rises (c ∷ cs) = Each (λ d. c < d) cs × Rises cs

abbrev pub columns_of : List Mask → List ℕ
columns_of ms = map (λ m. m.column) ms

-- ---- columns in the catalog's order

named_rise : (k : ℕ) (ns : List (List ℕ)) → Rises (named_from k ns) × Each (λ c. k ≤ c) (named_from k ns)
named_rise k [] = (tt, tt)
named_rise k (n ∷ ns) =
    let rest = named_rise (suc k) ns in
    let above : Each (λ c. k < c) (named_from (suc k) ns) = each_weaken (λ c. suc k ≤ c) (λ c. k < c) (λ c h. omega (arith, h)) (named_from (suc k) ns) rest.1 in
    let least : Each (λ c. k ≤ c) (named_from (suc k) ns) = each_weaken (λ c. suc k ≤ c) (λ c. k ≤ c) (λ c h. omega (arith, h)) (named_from (suc k) ns) rest.1 in
    let here : k ≤ k = omega arith in
    let go : (b : Bool) → Rises (cond b (k ∷ named_from (suc k) ns) (named_from (suc k) ns)) × Each (λ c. k ≤ c) (cond b (k ∷ named_from (suc k) ns) (named_from (suc k) ns)) =
    elim [ true ↦ ((above, rest.0), (here, least)) | false ↦ (rest.0, least) ] in
    go (is_free_name n)

each_kept : {A : Type 0} (P : A → Type 0) (p : A → Bool) (xs : List A) → Each P xs → Each P (filter p xs)
each_kept P p [] h = tt
each_kept P p (x ∷ xs) h =
    let rest = each_kept P p xs h.1 in
    let go : (b : Bool) → Each P (cond b (x ∷ filter p xs) (filter p xs)) = elim [ true ↦ (h.0, rest) | false ↦ rest ] in
    go (p x)

rises_kept : (p : ℕ → Bool) (cs : List ℕ) → Rises cs → Rises (filter p cs)
rises_kept p [] h = tt
rises_kept p (c ∷ cs) h =
    let rest = rises_kept p cs h.1 in
    let go : (b : Bool) → Rises (cond b (c ∷ filter p cs) (filter p cs)) = elim [ true ↦ (each_kept (λ d. c < d) p cs h.0, rest) | false ↦ rest ] in
    go (p c)

-- ---- masks of columns

module _ (ps : List Permission) where
  masks_have : (P : ℕ → Type 0) (cs : List ℕ) → Each P cs → Each P (columns_of (masks_for ps cs))
  masks_have P [] h = tt
  masks_have P (c ∷ cs) h =
      let rest = masks_have P cs h.1 in
      let go : (b : Bool) → Each P (columns_of (cond b [] (record { column = c; shown = either (filters_for c ps) } ∷ []) ++ masks_for ps cs)) = elim [ true ↦ rest | false ↦ (h.0, rest) ] in
      go (list_all (permits c) ps)

  masks_rise : (cs : List ℕ) → Rises cs → Rises (columns_of (masks_for ps cs))
  masks_rise [] h = tt
  masks_rise (c ∷ cs) h =
      let rest = masks_rise cs h.1 in
      let go : (b : Bool) → Rises (columns_of (cond b [] (record { column = c; shown = either (filters_for c ps) } ∷ []) ++ masks_for ps cs)) =
      elim [ true ↦ rest | false ↦ (masks_have (λ d. c < d) cs h.0, rest) ] in
      go (list_all (permits c) ps)

-- each is among themselves
among_more : (x : ℕ) (cs ds : List ℕ) → Each (λ c. list_any (λ d. d == c) ds ≡ true) cs → Each (λ c. list_any (λ d. d == c) (x ∷ ds) ≡ true) cs
among_more x cs ds h =
    each_weaken (λ c. list_any (λ d. d == c) ds ≡ true) (λ c. list_any (λ d. d == c) (x ∷ ds) ≡ true)
    (λ c k. let go : (b : Bool) → (b || list_any (λ d. d == c) ds) ≡ true = elim [ true ↦ refl | false ↦ k ] in go (x == c)) cs h

pub among_itself : (cs : List ℕ) → Each (λ c. list_any (λ d. d == c) cs ≡ true) cs
among_itself [] = tt
among_itself (c ∷ cs) = (ap (λ b. b || list_any (λ d. d == c) cs) (eq-eqb c c refl), among_more c cs cs (among_itself cs))

-- ---- permissions

-- the columns of the masks rise, and are among the permitted ones
pub record AreMasks (columns : List ℕ) (masked : List ℕ) : Type 0 where
  pub rise : Rises masked
  pub among : Each (λ c. list_any (λ d. d == c) columns ≡ true) masked

abbrev pub HasMasks : Permission → Type 0
HasMasks p = AreMasks p.columns (columns_of p.masks)

bare : (p q : Permission) (cs : List ℕ) → p.masks ≡ [] → with_columns p cs ≡ Some q → HasMasks q
bare p q [] none e = cc
bare p q (c ∷ cs) none e =
    let same : record p { columns = c ∷ cs } ≡ q = cc in
    let gone : q.masks ≡ [] = ap (λ x. x.masks) (sym same) ∙ none in
    subst (λ ms. AreMasks q.columns (columns_of ms)) (sym gone) (record { rise = tt; among = tt })

together : (p q : Permission) (ps : List Permission) (cs : List ℕ) → Rises cs → p.masks ≡ masks_for ps cs → with_columns p cs ≡ Some q → HasMasks q
together p q ps [] rise is e = cc
together p q ps (c ∷ cs) rise is e =
    let same : record p { columns = c ∷ cs } ≡ q = cc in
    let masks : masks_for ps (c ∷ cs) ≡ q.masks = sym is ∙ ap (λ x. x.masks) same in
    let columns : c ∷ cs ≡ q.columns = ap (λ x. x.columns) same in
    let all : AreMasks (c ∷ cs) (columns_of (masks_for ps (c ∷ cs))) = record {
      rise = masks_rise ps (c ∷ cs) rise;
      among = masks_have ps (λ x. list_any (λ d. d == x) (c ∷ cs) ≡ true) (c ∷ cs) (among_itself (c ∷ cs));
    } in
    subst (λ ds. AreMasks ds (columns_of q.masks)) columns (subst (λ ms. AreMasks (c ∷ cs) (columns_of ms)) masks all)

own_masks : (k : TrackedTree) (name : List ℕ) (q : Permission) → own_permission k name ≡ Some q → HasMasks q
own_masks k name q e = by (find (λ p. bytes_eq p.role name) k.perms) e
  where
    by : (o : Option PermTree) → option_and_then (told_permission k) o ≡ Some q → HasMasks q
    by None f = cc
    by (Some p) f = bare (record { columns = []; filter = p.filter; limit = p.limit; aggregations = p.aggregations; masks = [] }) q _ refl f

set_masks : (k : TrackedTree) (ps : List Permission) (q : Permission) → combined k ps ≡ Some q → HasMasks q
set_masks k ps q e =
    together (record { columns = []; filter = either (filters_of ps); limit = limit_of ps; aggregations = some_aggregate ps; masks = masks_for ps (columns_of_any k ps) }) q ps (columns_of_any k ps)
    (rises_kept (λ c. list_any (permits c) ps) (named_columns k) (named_rise 0 k.column_names).0) refl e

masks_in : (role : Role) (is : List Inherited) (k : TrackedTree) (q : Permission) → permission_in role is k ≡ Some q → HasMasks q
masks_in Admin is k q e = bare (record { columns = []; filter = always; limit = None; aggregations = true; masks = [] }) q _ refl e
masks_in (Named name) is k q e = by (own_permission k name) refl e
  where
    by : (o : Option Permission) → own_permission k name ≡ o → or_inherited o k (set_of is name) ≡ Some q → HasMasks q
    by None at f = set_masks k (permissions_of k (set_of is name)) q f
    by (Some p) at f = own_masks k name q (at ∙ f)

-- of a role's permission on a table
pub permission_masks : (role : Role) (m : MetaTree) (t : ℕ) (q : Permission) → permission role m t ≡ Some q → HasMasks q
permission_masks role m t q e = by (tracked_table m t) e
  where
    by : (o : Option TrackedTree) → option_and_then (permission_in role m.inherited) o ≡ Some q → HasMasks q
    by None f = cc
    by (Some k) f = masks_in role m.inherited k q f

-- ---- what is bound

module _ (s : Schema) (vars : List Var) (t : ℕ) where
  bound_columns : (ms ns : List Mask) → bound_masks ms s vars t ≡ Ok ns → columns_of ms ≡ columns_of ns
  bound_columns [] ns e = let same : [] ≡ ns = cc in ap columns_of same
  bound_columns (m ∷ ms) ns e =
      let go : (r : Result BexpTree BindRefusal) (q : Result (List Mask) BindRefusal) → bound_masks ms s vars t ≡ q
      → and_then (λ shown. mapped (λ rest. record { column = m.column; shown = shown } ∷ rest) q) r ≡ Ok ns → columns_of (m ∷ ms) ≡ columns_of ns =
      elim [
        | Ok x ↦ elim [
          | Ok rest ↦ λ at f.
              let same : (record { column = m.column; shown = x } ∷ rest) ≡ ns = cc in
              ap (λ cs. m.column ∷ cs) (bound_columns ms rest at) ∙ ap columns_of same
          | Err r ↦ λ at f. cc
        ]
        | Err r ↦ λ q at f. cc
      ] in
      go (bound m.shown s vars t) (bound_masks ms s vars t) refl e

  -- what is bound of a permission has its columns, and masks of the same columns
  pub bound_keeps : (q p : Permission) → bound_permission q s vars t ≡ Ok p → (q.columns ≡ p.columns) × (columns_of q.masks ≡ columns_of p.masks)
  bound_keeps q p e =
      let go : (r : Result BexpTree BindRefusal) (l : Result (List Mask) BindRefusal) → bound_masks q.masks s vars t ≡ l
      → and_then (λ filter. mapped (λ masks. record q { filter = filter; masks = masks }) l) r ≡ Ok p → (q.columns ≡ p.columns) × (columns_of q.masks ≡ columns_of p.masks) =
      elim [
        | Ok x ↦ elim [
          | Ok ns ↦ λ at f.
              let same : record q { filter = x; masks = ns } ≡ p = cc in
              (ap (λ z. z.columns) same, bound_columns q.masks ns at ∙ ap (λ z. columns_of z.masks) same)
          | Err r ↦ λ at f. cc
        ]
        | Err r ↦ λ l at f. cc
      ] in
      go (bound q.filter s vars t) (bound_masks q.masks s vars t) refl e

-- ---- each mask is that of its column

-- masks of other columns are passed over
passed : (m : Mask) (ms ns : List Mask) → Each (λ c. m.column < c) (columns_of ns) → Each (λ n. mask_of ms n.column ≡ n.shown) ns → Each (λ n. mask_of (m ∷ ms) n.column ≡ n.shown) ns
passed m ms [] less h = tt
passed m ms (n ∷ ns) less h =
    let other : (m.column == n.column) ≡ false = ne_eqb m.column n.column (λ e. let l = less.0 in absurd (omega (arith, l, e))) in
    (ap (λ b. cond b m.shown (mask_of ms n.column)) other ∙ h.0, passed m ms ns less.1 h.1)

pub own_of_each : (ms : List Mask) → Rises (columns_of ms) → Each (λ m. mask_of ms m.column ≡ m.shown) ms
own_of_each [] h = tt
own_of_each (m ∷ ms) h = (ap (λ b. cond b m.shown (mask_of ms m.column)) (eq-eqb m.column m.column refl), passed m ms ms h.0 (own_of_each ms h.1))
