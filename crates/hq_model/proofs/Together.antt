-- What roles permit together: the masks bind where the filter does, and are one level deeper than the filters at most.
use Rattle.std.proofs.Common.{◌≡◌, ℕ, ◌≤◌, suc, List, [], ◌∷◌, ◌++◌, filter, find, Bool, true, false, cond, Option, Some, None, Result, Ok, Err, bytes_eq, refl, sym, ap, subst, ◌∙◌, arith}
use Rattle.std.specs.Prelude.{is_ok, option_and_then, option_map, unwrap_or, ◌==◌}
use Rattle.std.specs.List.{list_all, list_any}
use Rattle.std.proofs.lemmas.Bool.{false≢true}
use Rattle.std.proofs.Math.Nat.{max-le}
use Rattle.hq_base.specs.Due.{and_then, mapped}
use Rattle.hq_base.specs.Lists.{Each, firsts}
use Rattle.hq_base.proofs.Lists.{each_all}
use Rattle.hq_model.specs.Bexp.{BexpTree, always, or_of, bexps_of, depth, depth_of_all}
use Rattle.hq_model.specs.Binding.{bound, bound_all, bound_masks}
use Rattle.hq_model.specs.Laws.{MasksBind, AreLow}
use Rattle.hq_model.specs.Meta.{PermTree, TrackedTree, MetaTree, tracked_table}
use Rattle.hq_model.specs.Permission.{Mask, Permission, with_columns, named_columns, told_permission, own_permission, option_list, permissions_of, either, permits, filters_of, filters_for, limit_of, some_aggregate, masks_for, columns_of_any, combined, set_of, or_inherited, permission_in}
use Rattle.hq_model.specs.Schema.{Schema}
use Rattle.hq_model.specs.declared.bind.BindRefusal.{BindRefusal}
use Rattle.hq_model.specs.declared.meta.Inherited.{Inherited}
use Rattle.hq_model.specs.declared.role.Role.{Role}
use Rattle.hq_model.specs.declared.role.Role.TheVariants.{Admin, Named}
use Rattle.hq_model.specs.declared.session.Var.{Var}

mapped_is_ok : {A B E : Type 0} (f : A → B) (r : Result A E) → is_ok (mapped f r) ≡ is_ok r
mapped_is_ok f (Ok x) = refl
mapped_is_ok f (Err e) = refl

module _ (s : Schema) (vars : List Var) (t : ℕ) where
  -- an expression has a value for each of its operands
  abbrev pub Binds : BexpTree → Type 0
  Binds b = is_ok (bound b s vars t) ≡ true

  all_bind : (bs : List BexpTree) → is_ok (bound_all (bexps_of bs) s vars t) ≡ true → Each Binds bs
  all_bind [] h = tt
  all_bind (b ∷ bs) h =
      let go : (r : Result BexpTree BindRefusal) (q : Result (List BexpTree) BindRefusal) → is_ok (and_then (λ x. mapped (λ xs. x ∷ xs) q) r) ≡ true → (is_ok r ≡ true) × (is_ok q ≡ true) =
      elim [ Ok x ↦ λ q g. (refl, sym (mapped_is_ok (λ xs. x ∷ xs) q) ∙ g) | Err e ↦ λ q g. absurd (false≢true g) ] in
      let both = go (bound b s vars t) (bound_all (bexps_of bs) s vars t) h in
      (both.0, all_bind bs both.1)

  bind_all : (bs : List BexpTree) → Each Binds bs → is_ok (bound_all (bexps_of bs) s vars t) ≡ true
  bind_all [] h = refl
  bind_all (b ∷ bs) h =
      let go : (r : Result BexpTree BindRefusal) (q : Result (List BexpTree) BindRefusal) → is_ok r ≡ true → is_ok q ≡ true → is_ok (and_then (λ x. mapped (λ xs. x ∷ xs) q) r) ≡ true =
      elim [ Ok x ↦ λ q g k. mapped_is_ok (λ xs. x ∷ xs) q ∙ k | Err e ↦ λ q g k. absurd (false≢true g) ] in
      go (bound b s vars t) (bound_all (bexps_of bs) s vars t) h.0 (bind_all bs h.1)

  either_all : (bs : List BexpTree) → Binds (either bs) → Each Binds bs
  either_all [] h = tt
  either_all (b ∷ []) h = (h, tt)
  either_all (b ∷ (c ∷ bs)) h = all_bind (b ∷ (c ∷ bs)) (sym (mapped_is_ok (λ xs. or_of (bexps_of xs)) (bound_all (bexps_of (b ∷ (c ∷ bs))) s vars t)) ∙ h)

  all_either : (bs : List BexpTree) → Each Binds bs → Binds (either bs)
  all_either [] h = refl
  all_either (b ∷ []) h = h.0
  all_either (b ∷ (c ∷ bs)) h = mapped_is_ok (λ xs. or_of (bexps_of xs)) (bound_all (bexps_of (b ∷ (c ∷ bs))) s vars t) ∙ bind_all (b ∷ (c ∷ bs)) h

  some_bind : (test : Permission → Bool) (ps : List Permission) → Each Binds (filters_of ps) → Each Binds (filters_of (filter test ps))
  some_bind test [] h = tt
  some_bind test (p ∷ ps) h =
      let later = some_bind test ps h.1 in
      let go : (b : Bool) → Each Binds (filters_of (cond b (p ∷ filter test ps) (filter test ps))) = elim [ true ↦ (h.0, later) | false ↦ later ] in
      go (test p)

  each_masks : (ps : List Permission) (cs : List ℕ) → Each Binds (filters_of ps) → Each (λ m. Binds m.shown) (masks_for ps cs)
  each_masks ps [] h = tt
  each_masks ps (c ∷ cs) h =
      let later = each_masks ps cs h in
      let go : (b : Bool) → Each (λ m. Binds m.shown) (cond b [] (record { column = c; shown = either (filters_for c ps) } ∷ []) ++ masks_for ps cs) =
      elim [ true ↦ later | false ↦ (all_either (filters_for c ps) (some_bind (permits c) ps h), later) ] in
      go (list_all (permits c) ps)

  bind_masks : (ms : List Mask) → Each (λ m. Binds m.shown) ms → is_ok (bound_masks ms s vars t) ≡ true
  bind_masks [] h = refl
  bind_masks (m ∷ ms) h =
      let go : (r : Result BexpTree BindRefusal) (q : Result (List Mask) BindRefusal) → is_ok r ≡ true → is_ok q ≡ true
      → is_ok (and_then (λ shown. mapped (λ rest. record { column = m.column; shown = shown } ∷ rest) q) r) ≡ true =
      elim [ Ok x ↦ λ q g k. mapped_is_ok _ q ∙ k | Err e ↦ λ q g k. absurd (false≢true g) ] in
      go (bound m.shown s vars t) (bound_masks ms s vars t) h.0 (bind_masks ms h.1)

  -- where the filter of roles together binds, their masks bind
  pub masks_bind : (ps : List Permission) (cs : List ℕ) → Binds (either (filters_of ps)) → is_ok (bound_masks (masks_for ps cs) s vars t) ≡ true
  masks_bind ps cs h = bind_masks (masks_for ps cs) (each_masks ps cs (either_all (filters_of ps) h))

-- ---- depths

all_low : (n : ℕ) (bs : List BexpTree) → Each (λ b. depth b ≤ n) bs → depth_of_all (bexps_of bs) ≤ n
all_low n [] h = omega arith
all_low n (b ∷ bs) h = max-le h.0 (all_low n bs h.1)

pub either_low : (n : ℕ) (bs : List BexpTree) → Each (λ b. depth b ≤ n) bs → depth (either bs) ≤ suc n
either_low n [] h = omega arith
either_low n (b ∷ []) h = let low = h.0 in omega (arith, low)
either_low n (b ∷ (c ∷ bs)) h = let low = all_low n (b ∷ (c ∷ bs)) h in omega (arith, low)

-- ---- a role's permission

-- the columns of a permission change neither its filter nor its masks
columns_keep : (p q : Permission) (cs : List ℕ) → with_columns p cs ≡ Some q → (p.filter ≡ q.filter) × (p.masks ≡ q.masks)
columns_keep p q [] e = cc
columns_keep p q (c ∷ cs) e = let same : record p { columns = c ∷ cs } ≡ q = cc in (ap (λ x. x.filter) same, ap (λ x. x.masks) same)

-- an entry's own permission has the entry's filter, and no masks
found_own : (P : BexpTree → Type 0) (k : TrackedTree) (name : List ℕ) (q : Permission) (ps : List PermTree) → Each (λ p. P p.filter) ps
    → option_and_then (told_permission k) (find (λ p. bytes_eq p.role name) ps) ≡ Some q → P q.filter × (q.masks ≡ [])
found_own P k name q [] h f = cc
found_own P k name q (p ∷ ps) h f =
    let here : option_and_then (told_permission k) (Some p) ≡ Some q → P q.filter × (q.masks ≡ []) =
    λ g.
    let kept =
    columns_keep (record { columns = []; filter = p.filter; limit = p.limit; aggregations = p.aggregations; masks = [] }) q
    (filter (λ c. list_any (λ d. d == c) p.cols) (named_columns k)) g in
    (subst P kept.0 h.0, sym kept.1) in
    let go : (b : Bool) → option_and_then (told_permission k) (cond b (Some p) (find (λ r. bytes_eq r.role name) ps)) ≡ Some q → P q.filter × (q.masks ≡ []) =
    elim [ true ↦ here | false ↦ λ g. found_own P k name q ps h.1 g ] in
    go (bytes_eq p.role name) f

own_of : (P : BexpTree → Type 0) (k : TrackedTree) (name : List ℕ) (q : Permission) → Each (λ p. P p.filter) k.perms → own_permission k name ≡ Some q → P q.filter × (q.masks ≡ [])
own_of P k name q all e = found_own P k name q k.perms all e

-- what holds of the filters of all entries holds of those of a set
set_of_filters : (P : BexpTree → Type 0) (k : TrackedTree) → Each (λ p. P p.filter) k.perms → (rs : List (List ℕ)) → Each P (filters_of (permissions_of k rs))
set_of_filters P k all [] = tt
set_of_filters P k all (r ∷ rs) =
    let later : Each P (filters_of (permissions_of k rs)) = set_of_filters P k all rs in
    let by : (o : Option Permission) → own_permission k r ≡ o → Each P (filters_of (option_list o ++ permissions_of k rs)) =
    elim [ None ↦ λ is. later | Some p ↦ λ is. ((own_of P k r p all is).0, later) ] in
    by (own_permission k r) refl

-- what holds of filters holds of those for a column
some_filters : (P : BexpTree → Type 0) (test : Permission → Bool) (ps : List Permission) → Each P (filters_of ps) → Each P (filters_of (filter test ps))
some_filters P test [] h = tt
some_filters P test (p ∷ ps) h =
    let later = some_filters P test ps h.1 in
    let go : (b : Bool) → Each P (filters_of (cond b (p ∷ filter test ps) (filter test ps))) = elim [ true ↦ (h.0, later) | false ↦ later ] in
    go (test p)

-- a permission of a role: by the rows of its own entry, or by those of the set
module _ (P : Permission → Type 0) (k : TrackedTree) (admin : (p : Permission) → p.filter ≡ always → p.masks ≡ [] → P p)
    (own : (name : List ℕ) (p : Permission) → own_permission k name ≡ Some p → P p) (together : (rs : List (List ℕ)) (p : Permission) → combined k (permissions_of k rs) ≡ Some p → P p) where
  pub permission_by : (role : Role) (is : List Inherited) (p : Permission) → permission_in role is k ≡ Some p → P p
  permission_by Admin is p e = let kept = columns_keep (record { columns = []; filter = always; limit = None; aggregations = true; masks = [] }) p _ e in admin p (sym kept.0) (sym kept.1)
  permission_by (Named name) is p e = by (own_permission k name) refl e
    where
      by : (o : Option Permission) → own_permission k name ≡ o → or_inherited o k (set_of is name) ≡ Some p → P p
      by None at f = together (set_of is name) p f
      by (Some q) at f = own name p (at ∙ f)

-- where its filter binds, the masks of a permission bind
abbrev MasksFollow : Schema → List Var → ℕ → Permission → Type 0
MasksFollow s vars t q = is_ok (bound q.filter s vars t) ≡ true → is_ok (bound_masks q.masks s vars t) ≡ true

pub permission_binds : (role : Role) (m : MetaTree) (s : Schema) (vars : List Var) (t : ℕ) → MasksBind role m s vars t
permission_binds role m s vars t p e h = by (tracked_table m t) e
  where
    none : (ms : List Mask) → ms ≡ [] → is_ok (bound_masks ms s vars t) ≡ true
    none ms is = ap (λ l. is_ok (bound_masks l s vars t)) is

    of_set : (k : TrackedTree) (rs : List (List ℕ)) (q : Permission) → combined k (permissions_of k rs) ≡ Some q → MasksFollow s vars t q
    of_set k rs q f b =
        let ps = permissions_of k rs in
        let kept = columns_keep (record { columns = []; filter = either (filters_of ps); limit = limit_of ps; aggregations = some_aggregate ps; masks = masks_for ps (columns_of_any k ps) }) q _ f in
        subst (λ ms. is_ok (bound_masks ms s vars t) ≡ true) kept.1 (masks_bind s vars t ps (columns_of_any k ps) (subst (λ x. is_ok (bound x s vars t) ≡ true) (sym kept.0) b))

    by : (o : Option TrackedTree) → option_and_then (permission_in role m.inherited) o ≡ Some p → is_ok (bound_masks p.masks s vars t) ≡ true
    by None f = cc
    by (Some k) f =
        permission_by (MasksFollow s vars t) k (λ q is bare b. none q.masks bare)
        (λ name q is b. none q.masks (own_of (λ x. Unit {0}) k name q (each_all (λ r. Unit {0}) (λ r. tt) k.perms) is).1) (of_set k) role
        m.inherited p f h

-- what holds of the filters of all entries, and more weakly of several joined, holds so of a role's filter and masks
module _ (P Q : BexpTree → Type 0) (weak : (b : BexpTree) → P b → Q b) (of_admin : Q always)
    (joined : (bs : List BexpTree) → Each P bs → Q (either bs)) (k : TrackedTree) (all : Each (λ p. P p.filter) k.perms) where
  abbrev Holds : Permission → Type 0
  Holds q = Q q.filter × Each (λ m. Q m.shown) q.masks

  masks_hold : (ps : List Permission) (cs : List ℕ) → Each P (filters_of ps) → Each (λ m. Q m.shown) (masks_for ps cs)
  masks_hold ps [] h = tt
  masks_hold ps (c ∷ cs) h =
      let later = masks_hold ps cs h in
      let go : (b : Bool) → Each (λ m. Q m.shown) (cond b [] (record { column = c; shown = either (filters_for c ps) } ∷ []) ++ masks_for ps cs) =
      elim [ true ↦ later | false ↦ (joined (filters_for c ps) (some_filters P (permits c) ps h), later) ] in
      go (list_all (permits c) ps)

  no_masks : (ms : List Mask) → ms ≡ [] → Each (λ m. Q m.shown) ms
  no_masks ms bare = subst (Each (λ m. Q m.shown)) (sym bare) tt

  own_holds : (name : List ℕ) (q : Permission) → own_permission k name ≡ Some q → Holds q
  own_holds name q is = let own = own_of P k name q all is in (weak q.filter own.0, no_masks q.masks own.1)

  set_holds : (rs : List (List ℕ)) (q : Permission) → combined k (permissions_of k rs) ≡ Some q → Holds q
  set_holds rs q f =
      let ps = permissions_of k rs in
      let filters = set_of_filters P k all rs in
      let kept = columns_keep (record { columns = []; filter = either (filters_of ps); limit = limit_of ps; aggregations = some_aggregate ps; masks = masks_for ps (columns_of_any k ps) }) q _ f in
      (subst Q kept.0 (joined (filters_of ps) filters), subst (Each (λ m. Q m.shown)) kept.1 (masks_hold ps (columns_of_any k ps) filters))

  pub permission_holds : (role : Role) (is : List Inherited) (p : Permission) → permission_in role is k ≡ Some p → Holds p
  permission_holds role is p e = permission_by Holds k (λ q same bare. (subst Q (sym same) of_admin, no_masks q.masks bare)) own_holds set_holds role is p e

-- filters and masks are at most one level deeper than those of the entries
pub permission_low : (role : Role) (is : List Inherited) (k : TrackedTree) (n : ℕ) → AreLow role is k n
permission_low role is k n all p e = permission_holds (λ b. depth b ≤ n) (λ b. depth b ≤ suc n) (λ b h. omega arith) (omega arith) (either_low n) k all role is p e

-- ---- roles that are not inherited

nothing_permitted : (cs : List ℕ) → filter (λ c. list_any (permits c) []) cs ≡ []
nothing_permitted [] = refl
nothing_permitted (c ∷ cs) = nothing_permitted cs

-- what the roles of the set of an entry permit together
abbrev of_entry : TrackedTree → Option Inherited → Option Permission
of_entry k o = combined k (permissions_of k (firsts bytes_eq (unwrap_or (option_map (λ i. i.set) o) [])))

-- a role that is not inherited may see what its own entry permits
pub own_alone : (is : List Inherited) (name : List ℕ) (k : TrackedTree) → find (λ i. bytes_eq i.role name) is ≡ None → permission_in (Named name) is k ≡ own_permission k name
own_alone is name k none = by (own_permission k name)
  where
    by : (o : Option Permission) → or_inherited o k (set_of is name) ≡ o
    by None =
        ap (of_entry k) none
        ∙ ap (with_columns (record { columns = []; filter = either []; limit = None; aggregations = false; masks = masks_for [] (columns_of_any k []) })) (nothing_permitted (named_columns k))
    by (Some p) = refl
