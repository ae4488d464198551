-- Groups that grow by what their sets spread.
use Rattle.std.proofs.Common.{◌≡◌, ◌∙◌, ℕ, zero, suc, ◌+◌, ◌<◌, ◌≤◌, List, [], ◌∷◌, ◌++◌, length, take, get_or, ◌⊎◌, inl, inr, Some, None, sym, refl, ap, subst, arith, append_assoc}
use Rattle.std.specs.Prelude.{slice_get}
use Rattle.std.specs.List.{All, Contains}
use Rattle.std.proofs.lemmas.Bool.{cases_lt}
use Rattle.std.proofs.lemmas.List.{take_more}
use Rattle.std.proofs.lemmas.List.Elements.{All-nil, All-append, All-cons, All-contains, All-weaker, Contains-append_left, Contains-append_right, Contains-push}
use Rattle.std.proofs.lemmas.Option.{slice_get_within, get_or_from_slice_get, slice_get_read}
use Rattle.hq_overlap_sets.specs.Sets.{SetTree}
use Rattle.hq_overlap_sets.specs.Pairs.{spreads_at}
use Rattle.hq_overlap_sets.specs.Together as walk
use Rattle.hq_overlap_sets.specs.Together.{Together}
use Rattle.hq_overlap_sets.proofs.Growing.{nothing_more}
use Rattle.hq_overlap_sets.proofs.Least.{same_some}
use Rattle.hq_overlap_sets.proofs.RowLemmas.{split_member}
use Rattle.hq_overlap_sets.proofs.Tests.{contains_first}
use Rattle.hq_rules_overlap.specs.Groups.{HasAll, AreTogether, Grows, IsClosed}

-- a number at a place stands in the list
pub contains_at : (xs : List ℕ) (i x y : ℕ) → slice_get xs i ≡ Some x → x ≡ y → Contains xs y
contains_at xs i x y h e = subst (Contains xs) e (i, slice_get_within xs i x h, get_or_from_slice_get xs i x x h)

-- nothing is added of what stands there, and what is added at the end
pub adds_nothing : (old : List ℕ) (s : ℕ) → Contains old s → Grows (s ∷ []) old old
adds_nothing old s h = record {
  more = [];
  is = sym (nothing_more old);
  only = All-nil (Contains (s ∷ []));
  has = All-cons (Contains old) s [] h (All-nil (Contains old));
}

pub adds_one : (old new : List ℕ) (s : ℕ) → new ≡ old ++ (s ∷ []) → Grows (s ∷ []) old new
adds_one old new s e = record {
  more = s ∷ [];
  is = e;
  only = All-cons (Contains (s ∷ [])) s [] (contains_first s []) (All-nil (Contains (s ∷ [])));
  has = All-cons (Contains new) s [] (subst (λ (xs : List ℕ). Contains xs s) (sym e) (Contains-push old s)) (All-nil (Contains new));
}

pub grows_nothing : (old : List ℕ) → Grows [] old old
grows_nothing old = record { more = []; is = sym (nothing_more old); only = All-nil (Contains []); has = All-nil (Contains old) }

-- one more is added
pub grows_more : (xs : List ℕ) (i x d : ℕ) (a b c : List ℕ) → i < length xs → x ≡ get_or xs i d → Grows (take i xs) a b → Grows (x ∷ []) b c → Grows (take (i + 1) xs) a c
grows_more xs i x d a b c h is p q =
    let grown : take (i + 1) xs ≡ take i xs ++ (x ∷ []) = take_more xs i d h ∙ ap (λ (y : ℕ). take i xs ++ (y ∷ [])) (sym is) in
    let kept = λ (s : ℕ) (m : Contains b s). subst (λ (ys : List ℕ). Contains ys s) (sym q.is) (Contains-append_left b q.more s m) in
    record {
      more = p.more ++ q.more;
      is = q.is ∙ (ap (λ (ys : List ℕ). ys ++ q.more) p.is ∙ append_assoc a p.more q.more);
      only = subst (λ (ys : List ℕ). All (Contains ys) (p.more ++ q.more)) (sym grown)
          (All-append (Contains (take i xs ++ (x ∷ []))) p.more q.more
          (All-weaker (Contains (take i xs)) (Contains (take i xs ++ (x ∷ []))) (λ s m. Contains-append_left (take i xs) (x ∷ []) s m) p.more p.only)
          (All-weaker (Contains (x ∷ [])) (Contains (take i xs ++ (x ∷ []))) (λ s m. Contains-append_right (take i xs) (x ∷ []) s m) q.more q.only));
      has = subst (All (Contains c)) (sym grown) (All-append (Contains c) (take i xs) (x ∷ []) (All-weaker (Contains b) (Contains c) kept (take i xs) p.has) q.has);
    }

-- what stood in a list still does, and what is new was added
pub grows_kept : (added old new : List ℕ) → Grows added old new → HasAll new old
grows_kept added old new g s h = subst (λ (ys : List ℕ). Contains ys s) (sym g.is) (Contains-append_left old g.more s h)

grows_cases : (added old new : List ℕ) (s : ℕ) → Grows added old new → Contains new s → Contains old s ⊎ Contains added s
grows_cases added old new s g h =
    (elim (split_member old g.more s (subst (λ (ys : List ℕ). Contains ys s) g.is h)) [
      | inl before ↦ inl before
      | inr more ↦ inr (All-contains (Contains added) g.more s g.only more)
    ])

-- with what one of them spreads the sets are still put together
module _ (sets : List SetTree) (s : ℕ) (old new : List ℕ) (together : AreTogether sets old) (stands : Contains old s) (g : Grows (spreads_at sets s) old new) where
  with_one : (x y : ℕ) → Contains old x ⊎ Contains (spreads_at sets s) x → Contains old y ⊎ Contains (spreads_at sets s) y → Together sets x y
  with_one x y (inl a) (inl b) = together x y a b
  with_one x y (inl a) (inr b) = walk.right (together x s a stands) b
  with_one x y (inr a) (inl b) = walk.left (together s y stands b) a
  with_one x y (inr a) (inr b) = walk.right (walk.left (together s s stands stands) a) b

  pub still_together : AreTogether sets new
  still_together x y a b = with_one x y (grows_cases (spreads_at sets s) old new x g a) (grows_cases (spreads_at sets s) old new y g b)

-- the sets so far have what they spread in the group
abbrev pub HaveSpreads : List SetTree → List ℕ → ℕ → Type 0
HaveSpreads sets group count = (k s u : ℕ) → k < count → slice_get group k ≡ Some s → Contains (spreads_at sets s) u → Contains group u

pub no_spreads : (sets : List SetTree) (group : List ℕ) → HaveSpreads sets group 0
no_spreads sets group k s u h e c = absurd (omega arith)

get_before : (xs ys : List ℕ) (k z : ℕ) → k < length xs → slice_get (xs ++ ys) k ≡ Some z → slice_get xs k ≡ Some z
get_before [] ys k z l h = absurd (omega arith)
get_before (x ∷ xs) ys zero z l h = h
get_before (x ∷ xs) ys (suc k) z l h = get_before xs ys k z (omega arith) h

pub spreads_more : (sets : List SetTree) (old new : List ℕ) (at s : ℕ) → slice_get old at ≡ Some s → Grows (spreads_at sets s) old new → HaveSpreads sets old at → HaveSpreads sets new (at + 1)
spreads_more sets old new at s stands g before k t u h e c =
    let inside : at < length old = slice_get_within old at s stands in
    let older : (k < length old) → slice_get old k ≡ Some t = λ l. get_before old g.more k t l (subst (λ (ys : List ℕ). slice_get ys k ≡ Some t) g.is e) in
    (elim (cases_lt k at) [
      | inl less ↦ grows_kept (spreads_at sets s) old new g u (before k t u less (older (omega arith)) c)
      | inr more ↦
          let same : k ≡ at = omega arith in
          let one : s ≡ t = same_some s t (sym stands ∙ subst (λ (n : ℕ). slice_get old n ≡ Some t) same (older (omega arith))) in
          All-contains (Contains new) (spreads_at sets s) u g.has (subst (λ (x : ℕ). Contains (spreads_at sets x) u) (sym one) c)
    ])

beyond : (xs : List ℕ) (k : ℕ) → slice_get xs k ≡ None → length xs ≤ k
beyond [] k h = omega arith
beyond (x ∷ xs) zero h = absurd (cc)
beyond (x ∷ xs) (suc k) h = let r = beyond xs k h in omega (arith, r)

-- at the end of a group all its sets have
pub all_spreads : (sets : List SetTree) (group : List ℕ) (at : ℕ) → slice_get group at ≡ None → HaveSpreads sets group at → IsClosed sets group
all_spreads sets group at none have s u h c =
    let long = beyond group at none in
    let inside : h.0 < length group = h.1 in
    have h.0 s u (omega (arith, long)) (slice_get_read group (length group) h.0 s refl h.1 (sym h.2)) c
