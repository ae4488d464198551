-- A walk whose pairs are all done has met each pair that the rule reaches.
use Rattle.std.proofs.Common.{◌≡◌, ℕ, zero, suc, ◌+◌, ◌<◌, ◌≤◌, List, [], ◌∷◌, ◌++◌, Some, None, length, inl, inr, sym, refl, ◌∙◌, subst, arith, false}
use Rattle.std.proofs.Math.Nat.{max_comm}
use Rattle.std.specs.Prelude.{slice_get}
use Rattle.std.specs.List.{Contains}
use Rattle.std.proofs.lemmas.Bool.{cases_lt, both_ways}
use Rattle.std.proofs.lemmas.List.Elements.{All-contains, All-weaker}
use Rattle.std.proofs.lemmas.Option.{slice_get_within, get_or_from_slice_get, slice_get_read}
use Rattle.hq_overlap_sets.specs.declared.sets.Pair.{Pair}
use Rattle.hq_rules_overlap.specs.declared.walk.Walk.{Walk}
use Rattle.hq_overlap_sets.specs.Sets.{FieldTree, SetTree}
use Rattle.hq_overlap_sets.specs.Pairs as rule
use Rattle.hq_overlap_sets.specs.Pairs.{fields_at, spreads_at, Violates, later, AtMost, IsFirst}
use Rattle.hq_overlap_sets.specs.Together as walk
use Rattle.hq_rules_overlap.specs.Walk.{Met, is_marked, Known, Compared, ComparedWith, IsDone, IsSound, AreDone, HasRoots, Step}
use Rattle.hq_overlap_sets.specs.Together.{Together, AreConflicts}
use Rattle.hq_overlap_sets.proofs.Tests.{no_member}
use Rattle.hq_overlap_sets.proofs.Reaching.{in_sets, found_from, violates_turned}
use Rattle.hq_overlap_sets.proofs.Least.{same_some}
use Rattle.hq_rules_overlap.proofs.Steps.{known_kept, with_kept}

turned : (sets : List SetTree) (q : Walk) (s t : ℕ) → Known sets q s t → Known sets q t s
turned sets q s t (inl h) = inr (inl h)
turned sets q s t (inr (inl h)) = inl h
turned sets q s t (inr (inr (inl h))) = inr (inr (inr h))
turned sets q s t (inr (inr (inr h))) = inr (inr (inl h))

nothing_in : {X : Type 0} (xs : List X) (x : X) → xs ≡ [] → Contains xs x → ⊥
nothing_in xs x e h = no_member x (subst (λ ys. Contains ys x) e h)

-- what is known is done in one order or the other, or there is nothing to it
module _ (sets : List SetTree) (q : Walk) (done : (s t : ℕ) → Met q s t → IsDone sets q s t) where
  compared_in : (s t : ℕ) (a b : FieldTree) → Contains (fields_at sets s) a → Contains (fields_at sets t) b → Met q s t → Compared sets q a b
  compared_in s t a b first second h =
      All-contains (Compared sets q a) (fields_at sets t) b (All-contains (λ x. ComparedWith sets q x (fields_at sets t)) (fields_at sets s) a (done s t h).fields first) second

  known_below : (s t : ℕ) (a b : FieldTree) → Contains (fields_at sets s) a → Contains (fields_at sets t) b → a.key ≡ b.key → Known sets q s t → Known sets q a.below b.below
  known_below s t a b first second e (inl h) = (compared_in s t a b first second h).below e
  known_below s t a b first second e (inr (inl h)) = turned sets q b.below a.below ((compared_in t s b a second first h).below (sym e))
  known_below s t a b first second e (inr (inr (inl h))) = absurd (nothing_in (fields_at sets s) a h.fields first)
  known_below s t a b first second e (inr (inr (inr h))) = absurd (nothing_in (fields_at sets t) b h.fields second)

  counted_of : (s t : ℕ) (a b : FieldTree) → Contains (fields_at sets s) a → Contains (fields_at sets t) b → Violates a b → Known sets q s t → AtMost q.best (later a b)
  counted_of s t a b first second v (inl h) = (compared_in s t a b first second h).counted v
  counted_of s t a b first second v (inr (inl h)) =
      subst (AtMost q.best) (max_comm b.at a.at) ((compared_in t s b a second first h).counted (violates_turned a b v))
  counted_of s t a b first second v (inr (inr (inl h))) = absurd (nothing_in (fields_at sets s) a h.fields first)
  counted_of s t a b first second v (inr (inr (inr h))) = absurd (nothing_in (fields_at sets t) b h.fields second)

  known_left : (s t u : ℕ) → Contains (spreads_at sets s) u → Known sets q s t → Known sets q u t
  known_left s t u stands (inl h) = All-contains (λ x. Known sets q x t) (spreads_at sets s) u (done s t h).left stands
  known_left s t u stands (inr (inl h)) = turned sets q t u (All-contains (λ x. Known sets q t x) (spreads_at sets s) u (done t s h).right stands)
  known_left s t u stands (inr (inr (inl h))) = absurd (nothing_in (spreads_at sets s) u h.spreads stands)
  known_left s t u stands (inr (inr (inr h))) = inr (inr (inr h))

  known_right : (s t u : ℕ) → Contains (spreads_at sets t) u → Known sets q s t → Known sets q s u
  known_right s t u stands h = turned sets q u s (known_left t s u stands (turned sets q s t h))

  met_all : HasRoots sets q (length sets) → {s t : ℕ} → Together sets s t → Known sets q s t
  met_all roots (walk.alone h) = roots _ h
  met_all roots (walk.left {s} {t} {u} g stands) = known_left s t u stands (met_all roots g)
  met_all roots (walk.right {s} {t} {u} g stands) = known_right s t u stands (met_all roots g)
  met_all roots (walk.below {s} {t} {a} {b} g first second e) = known_below s t a b first second e (met_all roots g)

  pub is_first : HasRoots sets q (length sets) → IsSound sets q → IsFirst sets q.best
  is_first roots sound = record {
    found = found_from sets q.best sound.found;
    least = λ a b reached v. let x = in_sets sets reached in counted_of x.0 x.1 a b x.3 x.4 v (met_all roots x.2);
  }

pub done_kept : (sets : List SetTree) (p q : Walk) (s t : ℕ) → Step sets p q → IsDone sets p s t → IsDone sets q s t
done_kept sets p q s t step done = record {
  fields = All-weaker (λ (a : FieldTree). ComparedWith sets p a (fields_at sets t)) (λ (a : FieldTree). ComparedWith sets q a (fields_at sets t))
      (λ a. with_kept sets p q a (fields_at sets t) step) (fields_at sets s) done.fields;
  left = All-weaker (λ (u : ℕ). Known sets p u t) (λ (u : ℕ). Known sets q u t) (λ u. known_kept sets p q u t step) (spreads_at sets s) done.left;
  right = All-weaker (λ (u : ℕ). Known sets p s u) (λ (u : ℕ). Known sets q s u) (λ u. known_kept sets p q s u step) (spreads_at sets t) done.right;
}

pub roots_kept : (sets : List SetTree) (p q : Walk) (n : ℕ) → Step sets p q → HasRoots sets p n → HasRoots sets q n
roots_kept sets p q n step h s hs = known_kept sets p q s s step (h s hs)

-- what stands in a list stands in a longer one, and in front of its end nothing else does
get_longer : (xs ys : List Pair) (i : ℕ) (z : Pair) → slice_get xs i ≡ Some z → slice_get (xs ++ ys) i ≡ Some z
get_longer [] ys i z h = absurd (cc)
get_longer (x ∷ xs) ys zero z h = h
get_longer (x ∷ xs) ys (suc i) z h = get_longer xs ys i z h

get_front : (xs ys : List Pair) (i : ℕ) (z : Pair) → i < length xs → slice_get (xs ++ ys) i ≡ Some z → slice_get xs i ≡ Some z
get_front [] ys i z l h = absurd (omega arith)
get_front (x ∷ xs) ys zero z l h = h
get_front (x ∷ xs) ys (suc i) z l h = get_front xs ys i z (omega arith) h

-- the first pairs are done, after one more
pub done_more : (sets : List SetTree) (p q : Walk) (count : ℕ) (x : Pair) → Step sets p q → slice_get p.pairs.items count ≡ Some x → AreDone sets p count
    → IsDone sets q x.left x.right → AreDone sets q (count + 1)
done_more sets p q count x step at before now k y below stands =
    let now_stands : slice_get (p.pairs.items ++ step.grown.0) k ≡ Some y = subst (λ (zs : List Pair). slice_get zs k ≡ Some y) step.grown.1 stands in
    let inside : count < length p.pairs.items = slice_get_within p.pairs.items count x at in
    (elim (cases_lt k count) [
      | inl less ↦ done_kept sets p q y.left y.right step (before k y less (get_front p.pairs.items step.grown.0 k y (omega arith) now_stands))
      | inr more ↦
          let e : k ≡ count = omega arith in
          let other : slice_get p.pairs.items count ≡ Some y =
          get_front p.pairs.items step.grown.0 count y inside (subst (λ (n : ℕ). slice_get (p.pairs.items ++ step.grown.0) n ≡ Some y) e now_stands) in
          subst (λ (z : Pair). IsDone sets q z.left z.right) (same_some x y (sym at ∙ other)) now
    ])

-- a pair of the list was met
pub met_at : (q : Walk) (k : ℕ) (x : Pair) → slice_get q.pairs.items k ≡ Some x → Met q x.left x.right
met_at q k x h = (k, slice_get_within q.pairs.items k x h, get_or_from_slice_get q.pairs.items k x x h)

-- where no pair is left, all that were met are done
pub all_done : (sets : List SetTree) (q : Walk) (count : ℕ) → length q.pairs.items ≤ count → AreDone sets q count → (s t : ℕ) → Met q s t → IsDone sets q s t
all_done sets q count h done s t met =
    let inside : met.0 < length q.pairs.items = met.1 in
    done met.0 (record { left = s; right = t }) (omega arith)
    (slice_get_read q.pairs.items (length q.pairs.items) met.0 (record { left = s; right = t }) refl met.1 (sym met.2))

beyond : (xs : List Pair) (k : ℕ) → slice_get xs k ≡ None → length xs ≤ k
beyond [] k h = omega arith
beyond (x ∷ xs) zero h = absurd (cc)
beyond (x ∷ xs) (suc k) h = let r = beyond xs k h in omega (arith, r)

-- no pair is done at first, and none stands beyond the list
pub done_none : (sets : List SetTree) (q : Walk) → AreDone sets q 0
done_none sets q k x h e = absurd (omega arith)

pub none_beyond : (q : Walk) (k : ℕ) → slice_get q.pairs.items k ≡ None → length q.pairs.items ≤ k
none_beyond q k h = beyond q.pairs.items k h

-- a walk that has met no pair
pub start_sound : (sets : List SetTree) (q : Walk) → q.pairs.items ≡ [] → ((s t : ℕ) → is_marked q s t ≡ false) → AreConflicts sets q.best → IsSound sets q
start_sound sets q none unmarked best = record {
  together = λ s t met. absurd (nothing_in q.pairs.items (record { left = s; right = t }) none met);
  marked = λ s t h. absurd (both_ways (is_marked q s t) (unmarked s t) h);
  found = best;
}
