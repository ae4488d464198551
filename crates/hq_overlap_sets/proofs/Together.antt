-- The place that is computed is the first one.
use Rattle.std.proofs.Common.{◌≡◌, ℕ, zero, suc, ◌<◌, ◌≤◌, List, [], ◌∷◌, ◌++◌, map, length, Bool, true, false, cond, ◌&&◌, ◌||◌, nat_eq, bytes_eq, inl, inr, Option, Some, None, sym, refl, ap, subst, arith}
use Rattle.std.specs.List.{Contains, list_any}
use Rattle.std.proofs.lemmas.Bool.{and_parts, and_from, or_cases, or_left, or_right, cases_lt}
use Rattle.std.proofs.lemmas.List.Elements.{Contains-append_left, Contains-push, Contains-push_cases}
use Rattle.hq_schema.specs.Schema.{SchemaTree}
use Rattle.hq_gql_tree.specs.Documents.{DocumentTree}
use Rattle.hq_gql_nodes.specs.Least.{at_if, least_of}
use Rattle.hq_overlap_sets.specs.Sets.{FieldTree, SetTree, document_sets}
use Rattle.hq_overlap_sets.specs.Pairs.{fields_at, spreads_at, Reached, Violates, later, AtMost, IsFirst}
use Rattle.hq_overlap_sets.specs.Places.{cannot_merge, conflict_place, Two, same_two, leads, has_way, below, all_two, are_together, overlap_in, overlap_place}
use Rattle.hq_overlap_sets.specs.Together as walk
use Rattle.hq_overlap_sets.specs.Together.{Together, AreConflicts}
use Rattle.hq_overlap_sets.proofs.Tests.{nat_same, nat_itself, no_member, any_found, any_passes, contains_map, contains_flat_map}
use Rattle.hq_overlap_sets.proofs.Least.{at_if_true, at_if_low, least_low, least_found}
use Rattle.hq_overlap_sets.proofs.Ways.{way_keeps, way_of_step, join_ways}
use Rattle.hq_overlap_sets.proofs.ValueLemmas.{bytes_true, true_bytes}
use Rattle.hq_overlap_sets.proofs.FieldTests.{violates_by, by_violates}
use Rattle.hq_overlap_sets.proofs.Reaching.{in_sets, found_from}

-- the numbers below n
pub below_has : (n s : ℕ) → s < n → Contains (below n) s
below_has zero s h = absurd (omega arith)
below_has (suc n) s h =
    (elim (cases_lt s n) [
      | inl less ↦ Contains-append_left (below n) (n ∷ []) s (below_has n s less)
      | inr more ↦ let e : n ≡ s = omega arith in subst (Contains (below n ++ (n ∷ []))) e (Contains-push (below n) n)
    ])

pub below_only : (n s : ℕ) → Contains (below n) s → s < n
below_only zero s h = absurd (no_member s h)
below_only (suc n) s h =
    (elim (Contains-push_cases (below n) n s h) [
      | inl old ↦ let less = below_only n s old in omega (arith, less)
      | inr same ↦ omega (arith, same)
    ])

two_has : (n s t : ℕ) → s < n → t < n → Contains (all_two n) (s, t)
two_has n s t h k =
    contains_flat_map (λ (a : ℕ). map (λ (b : ℕ). (a, b)) (below n)) (below n) s (s, t) (below_has n s h) (contains_map (λ (b : ℕ). (s, b)) (below n) t (below_has n t k))

-- a set that has a field or a spread is one of the list
pub set_of_field : (sets : List SetTree) (s : ℕ) (a : FieldTree) → Contains (fields_at sets s) a → s < length sets
set_of_field [] s a c = absurd (no_member a c)
set_of_field (x ∷ sets) zero a c = omega arith
set_of_field (x ∷ sets) (suc s) a c = let r = set_of_field sets s a c in omega (arith, r)

pub set_of_spread : (sets : List SetTree) (s u : ℕ) → Contains (spreads_at sets s) u → s < length sets
set_of_spread [] s u c = absurd (no_member u c)
set_of_spread (x ∷ sets) zero u c = omega arith
set_of_spread (x ∷ sets) (suc s) u c = let r = set_of_spread sets s u c in omega (arith, r)

module _ (sets : List SetTree) where
  abbrev AreTwo : Two → Type 0
  AreTwo x = Together sets x.0 x.1

  abbrev spread_step : Two → Two → Bool
  spread_step x y = (list_any (nat_eq y.0) (spreads_at sets x.0) && nat_eq x.1 y.1) || (nat_eq x.0 y.0 && list_any (nat_eq y.1) (spreads_at sets x.1))

  abbrev alike : Two → FieldTree → FieldTree → Bool
  alike y a b = bytes_eq a.key b.key && (nat_eq a.below y.0 && nat_eq b.below y.1)

  abbrev field_step : Two → Two → Bool
  field_step x y = list_any (λ a. list_any (alike y a) (fields_at sets x.1)) (fields_at sets x.0)

  moved : (s t u v : ℕ) → s ≡ u → t ≡ v → Together sets s t → Together sets u v
  moved s t u v e f g = subst (λ w. Together sets w v) e (subst (λ w. Together sets s w) f g)

  -- sets put together lead to sets put together
  left_kept : (x y : Two) → list_any (nat_eq y.0) (spreads_at sets x.0) ≡ true → nat_eq x.1 y.1 ≡ true → AreTwo x → AreTwo y
  left_kept x y h e g =
      let at = any_found (nat_eq y.0) (spreads_at sets x.0) h in
      moved at.0 x.1 y.0 y.1 (sym (nat_same y.0 at.0 at.2)) (nat_same x.1 y.1 e) (walk.left g at.1)

  right_kept : (x y : Two) → nat_eq x.0 y.0 ≡ true → list_any (nat_eq y.1) (spreads_at sets x.1) ≡ true → AreTwo x → AreTwo y
  right_kept x y e h g =
      let at = any_found (nat_eq y.1) (spreads_at sets x.1) h in
      moved x.0 at.0 y.0 y.1 (nat_same x.0 y.0 e) (sym (nat_same y.1 at.0 at.2)) (walk.right g at.1)

  below_kept : (x y : Two) → field_step x y ≡ true → AreTwo x → AreTwo y
  below_kept x y h g =
      let first = any_found (λ a. list_any (alike y a) (fields_at sets x.1)) (fields_at sets x.0) h in
      let second = any_found (alike y first.0) (fields_at sets x.1) first.2 in
      let tests = and_parts (bytes_eq first.0.key second.0.key) (nat_eq first.0.below y.0 && nat_eq second.0.below y.1) second.2 in
      let sides = and_parts (nat_eq first.0.below y.0) (nat_eq second.0.below y.1) tests.1 in
      moved first.0.below second.0.below y.0 y.1 (nat_same first.0.below y.0 sides.0) (nat_same second.0.below y.1 sides.1)
      (walk.below g first.1 second.1 (bytes_true first.0.key second.0.key tests.0))

  leads_kept : (x y : Two) → leads sets x y ≡ true → AreTwo x → AreTwo y
  leads_kept x y h g =
      (elim (or_cases (same_two x y || spread_step x y) (field_step x y) h) [
        | inr field ↦ below_kept x y field g
        | inl rest ↦
            (elim (or_cases (same_two x y) (spread_step x y) rest) [
              | inl same ↦ let e = and_parts (nat_eq x.0 y.0) (nat_eq x.1 y.1) same in moved x.0 x.1 y.0 y.1 (nat_same x.0 y.0 e.0) (nat_same x.1 y.1 e.1) g
              | inr spread ↦
                  (elim (or_cases (list_any (nat_eq y.0) (spreads_at sets x.0) && nat_eq x.1 y.1) (nat_eq x.0 y.0 && list_any (nat_eq y.1) (spreads_at sets x.1)) spread) [
                    | inl l ↦ let e = and_parts (list_any (nat_eq y.0) (spreads_at sets x.0)) (nat_eq x.1 y.1) l in left_kept x y e.0 e.1 g
                    | inr r ↦ let e = and_parts (nat_eq x.0 y.0) (list_any (nat_eq y.1) (spreads_at sets x.1)) r in right_kept x y e.0 e.1 g
                  ])
            ])
      ])

  pub put_together : (x : Two) → are_together sets x ≡ true → Together sets x.0 x.1
  put_together x h =
      let root = any_found (λ s. has_way (leads sets) (all_two (length sets)) (s, s) x) (below (length sets)) h in
      way_keeps (leads sets) AreTwo leads_kept (all_two (length sets)) (root.0, root.0) x root.2 (walk.alone (below_only (length sets) root.0 root.1))

  -- a way from a set with itself
  abbrev FromRoot : ℕ → ℕ → Type 0
  FromRoot s t = (r : ℕ) × (r < length sets) × (has_way (leads sets) (all_two (length sets)) (r, r) (s, t) ≡ true)

  further : (s t u v : ℕ) → s < length sets → t < length sets → FromRoot s t → leads sets (s, t) (u, v) ≡ true → FromRoot u v
  further s t u v h k from step = (
    from.0,
    from.1,
    join_ways (leads sets) (all_two (length sets)) (s, t) (from.0, from.0) (u, v) (two_has (length sets) s t h k) from.2
        (way_of_step (leads sets) (all_two (length sets)) (s, t) (u, v) step),
  )

  same_step : (s : ℕ) → leads sets (s, s) (s, s) ≡ true
  same_step s =
      or_left (same_two (s, s) (s, s) || spread_step (s, s) (s, s)) (field_step (s, s) (s, s))
      (or_left (same_two (s, s) (s, s)) (spread_step (s, s) (s, s)) (and_from (nat_eq s s) (nat_eq s s) (nat_itself s) (nat_itself s)))

  by_spread : (x y : Two) → spread_step x y ≡ true → leads sets x y ≡ true
  by_spread x y h = or_left (same_two x y || spread_step x y) (field_step x y) (or_right (same_two x y) (spread_step x y) h)

  left_step : (s t u : ℕ) → Contains (spreads_at sets s) u → leads sets (s, t) (u, t) ≡ true
  left_step s t u c =
      by_spread (s, t) (u, t)
      (or_left (list_any (nat_eq u) (spreads_at sets s) && nat_eq t t) (nat_eq s u && list_any (nat_eq t) (spreads_at sets t))
      (and_from (list_any (nat_eq u) (spreads_at sets s)) (nat_eq t t) (any_passes (nat_eq u) (spreads_at sets s) u c (nat_itself u)) (nat_itself t)))

  right_step : (s t u : ℕ) → Contains (spreads_at sets t) u → leads sets (s, t) (s, u) ≡ true
  right_step s t u c =
      by_spread (s, t) (s, u)
      (or_right (list_any (nat_eq s) (spreads_at sets s) && nat_eq t u) (nat_eq s s && list_any (nat_eq u) (spreads_at sets t))
      (and_from (nat_eq s s) (list_any (nat_eq u) (spreads_at sets t)) (nat_itself s) (any_passes (nat_eq u) (spreads_at sets t) u c (nat_itself u))))

  below_step : (s t : ℕ) (a b : FieldTree) → Contains (fields_at sets s) a → Contains (fields_at sets t) b → a.key ≡ b.key → leads sets (s, t) (a.below, b.below) ≡ true
  below_step s t a b first second e =
      let y : Two = (a.below, b.below) in
      or_right (same_two (s, t) y || spread_step (s, t) y) (field_step (s, t) y)
      (any_passes (λ f. list_any (alike y f) (fields_at sets t)) (fields_at sets s) a first
      (any_passes (alike y a) (fields_at sets t) b second
      (and_from (bytes_eq a.key b.key) (nat_eq a.below a.below && nat_eq b.below b.below) (true_bytes a.key b.key e)
      (and_from (nat_eq a.below a.below) (nat_eq b.below b.below) (nat_itself a.below) (nat_itself b.below)))))

  from_root : {s t : ℕ} → Together sets s t → s < length sets → t < length sets → FromRoot s t
  from_root (walk.alone {s} h) l r = (s, l, way_of_step (leads sets) (all_two (length sets)) (s, s) (s, s) (same_step s))
  from_root (walk.left {s} {t} {u} g c) l r =
      let i = set_of_spread sets s u c in
      further s t u t i r (from_root g i r) (left_step s t u c)
  from_root (walk.right {s} {t} {u} g c) l r =
      let i = set_of_spread sets t u c in
      further s t s u l i (from_root g l i) (right_step s t u c)
  from_root (walk.below {s} {t} {a} {b} g first second e) l r =
      let i = set_of_field sets s a first in
      let j = set_of_field sets t b second in
      further s t a.below b.below i j (from_root g i j) (below_step s t a b first second e)

  pub are_put_together : (s t : ℕ) → s < length sets → t < length sets → Together sets s t → are_together sets (s, t) ≡ true
  are_put_together s t l r g =
      let from = from_root g l r in
      any_passes (λ (q : ℕ). has_way (leads sets) (all_two (length sets)) (q, q) (s, t)) (below (length sets)) from.0 (below_has (length sets) from.0 from.1) from.2

-- the conflicts of two lists of fields
abbrev conflict_test : FieldTree → FieldTree → Option ℕ
conflict_test a b = at_if (bytes_eq a.key b.key && cannot_merge a b) (later a b)

pub conflict_low : (xs ys : List FieldTree) (a b : FieldTree) → Contains xs a → Contains ys b → Violates a b → AtMost (conflict_place xs ys) (later a b)
conflict_low xs ys a b first second v =
    least_low (λ f. least_of (conflict_test f) ys) xs a (later a b) first
    (least_low (conflict_test a) ys b (later a b) second
    (at_if_low (bytes_eq a.key b.key && cannot_merge a b) (later a b)
    (and_from (bytes_eq a.key b.key) (cannot_merge a b) (true_bytes a.key b.key v.0) (by_violates a b v))))

pub conflict_at : (xs ys : List FieldTree) (p : ℕ) → conflict_place xs ys ≡ Some p
    → (a : FieldTree) × (b : FieldTree) × Contains xs a × Contains ys b × Violates a b × (later a b ≡ p)
conflict_at xs ys p h =
    let first = least_found (λ f. least_of (conflict_test f) ys) xs p h in
    let second = least_found (conflict_test first.0) ys p first.2 in
    let found = at_if_true (bytes_eq first.0.key second.0.key && cannot_merge first.0 second.0) (later first.0 second.0) p second.2 in
    let tests = and_parts (bytes_eq first.0.key second.0.key) (cannot_merge first.0 second.0) found.0 in
    (first.0, second.0, first.1, second.1, violates_by first.0 second.0 (bytes_true first.0.key second.0.key tests.0) tests.1, found.1)

if_some : (b : Bool) (o : Option ℕ) (p : ℕ) → cond b o None ≡ Some p → (b ≡ true) × (o ≡ Some p)
if_some true o p h = (refl, h)
if_some false o p h = absurd (cc)

low_if : (b : Bool) (o : Option ℕ) (n : ℕ) → b ≡ true → AtMost o n → AtMost (cond b o None) n
low_if true o n e h = h
low_if false o n e h = absurd (cc)

module _ (sets : List SetTree) where
  abbrev place_of : Two → Option ℕ
  place_of x = cond (are_together sets x) (conflict_place (fields_at sets x.0) (fields_at sets x.1)) None

  place_found : AreConflicts sets (overlap_in sets)
  unfolding overlap_in
  place_found p h =
      let x = least_found place_of (all_two (length sets)) p h in
      let held = if_some (are_together sets x.0) (conflict_place (fields_at sets x.0.0) (fields_at sets x.0.1)) p x.2 in
      let found = conflict_at (fields_at sets x.0.0) (fields_at sets x.0.1) p held.1 in
      record {
        s = x.0.0;
        t = x.0.1;
        a = found.0;
        b = found.1;
        together = put_together sets x.0 held.0;
        first = found.2;
        second = found.3;
        violates = found.4;
        place = found.5;
      }

  place_low : (a b : FieldTree) → Reached sets a b → Violates a b → AtMost (overlap_in sets) (later a b)
  unfolding overlap_in
  place_low a b reached v =
      let x = in_sets sets reached in
      let l = set_of_field sets x.0 a x.3 in
      let r = set_of_field sets x.1 b x.4 in
      least_low place_of (all_two (length sets)) (x.0, x.1) (later a b) (two_has (length sets) x.0 x.1 l r)
      (low_if (are_together sets (x.0, x.1)) (conflict_place (fields_at sets x.0) (fields_at sets x.1)) (later a b) (are_put_together sets x.0 x.1 l r x.2)
      (conflict_low (fields_at sets x.0) (fields_at sets x.1) a b x.3 x.4 v))

  pub place_is_first : IsFirst sets (overlap_in sets)
  place_is_first = record { found = found_from sets (overlap_in sets) place_found; least = place_low }

  -- there is one first place
  pub one_first : (r q : Option ℕ) → IsFirst sets r → IsFirst sets q → r ≡ q
  one_first None None f g = refl
  one_first None (Some p) f g = let w = g.found in absurd (f.least w.0 w.1 w.2 w.3)
  one_first (Some p) None f g = let w = f.found in absurd (g.least w.0 w.1 w.2 w.3)
  one_first (Some p) (Some q) f g =
      let v = f.found in
      let w = g.found in
      let low : p ≤ later w.0 w.1 = f.least w.0 w.1 w.2 w.3 in
      let high : q ≤ later v.0 v.1 = g.least v.0 v.1 v.2 v.3 in
      let e : later v.0 v.1 ≡ p = v.4 in
      let i : later w.0 w.1 ≡ q = w.4 in
      let same : p ≡ q = omega arith in
      ap (λ n. Some n) same

-- the first place of a document's sets is the one that is computed
pub first_is_place : (s : SchemaTree) (d : DocumentTree) (r : Option ℕ) → IsFirst (document_sets s d) r → r ≡ overlap_place s d
unfolding overlap_place
first_is_place s d r first = one_first (document_sets s d) r (overlap_in (document_sets s d)) first (place_is_first (document_sets s d))
