-- Lists of pairs of places that are equal link the same places.
use Rattle.std.proofs.Common.{◌≡◌, ℕ, zero, suc, ◌+◌, ◌<◌, List, [], ◌∷◌, map, length, Bool, true, false, cond, ◌&&◌, ◌||◌, ◌==◌, Some, refl, sym, ap, ap₂, ◌∙◌, subst, arith}
use Rattle.std.specs.Prelude.{slice_index_or, slice_get}
use Rattle.std.specs.List.{list_any}
use Rattle.std.proofs.lemmas.Bool.{eq-eqb, ne_eqb}
use Rattle.std.proofs.lemmas.List.Folds.{list_any-append}
use Rattle.hq_model.specs.View.{places_from, pairs_from, has_pair}

module _ {B : Type 0} (test : B → Bool) where
  none_before : (k : ℕ) (ys : List B) (i : ℕ) → i < k → list_any (λ l. l == i) (places_from test k ys) ≡ false
  none_before k [] i lt = refl
  none_before k (y ∷ ys) i lt =
      let later = none_before (suc k) ys i (omega arith) in
      let other = ne_eqb k i (omega arith) in
      let go : (b : Bool) → list_any (λ l. l == i) (cond b (k ∷ places_from test (suc k) ys) (places_from test (suc k) ys)) ≡ false = elim [ true ↦ rw other later | false ↦ later ] in
      go (test y)

  place_at : (k : ℕ) (ys : List B) (j : ℕ) (y : B) → slice_get ys j ≡ Some y → list_any (λ l. l == (k + j)) (places_from test k ys) ≡ test y
  place_at k [] j y e = cc
  place_at k (z ∷ ys) zero y e =
      let same : z ≡ y = cc in
      let yes = eq-eqb k (k + 0) (omega arith) in
      let none = none_before (suc k) ys (k + 0) (omega arith) in
      let go : (b : Bool) → list_any (λ l. l == (k + 0)) (cond b (k ∷ places_from test (suc k) ys) (places_from test (suc k) ys)) ≡ b = elim [ true ↦ rw yes refl | false ↦ none ] in
      go (test z) ∙ ap test same
  place_at k (z ∷ ys) (suc j) y e =
      let next : suc k + j ≡ k + suc j = omega arith in
      let later = subst (λ i. list_any (λ l. l == i) (places_from test (suc k) ys) ≡ test y) next (place_at (suc k) ys j y e) in
      let other = ne_eqb k (k + suc j) (omega arith) in
      let go : (b : Bool) → list_any (λ l. l == (k + suc j)) (cond b (k ∷ places_from test (suc k) ys) (places_from test (suc k) ys)) ≡ test y = elim [ true ↦ rw other later | false ↦ later ] in
      go (test z)

same_first : (k j : ℕ) (ls : List ℕ) → has_pair (map (λ l. (k, l)) ls) k j ≡ list_any (λ l. l == j) ls
same_first k j [] = refl
same_first k j (l ∷ ls) = let yes = eq-eqb k k refl in rw (yes, same_first k j ls) refl

other_first : (k i j : ℕ) (ls : List ℕ) → (k == i) ≡ false → has_pair (map (λ l. (k, l)) ls) i j ≡ false
other_first k i j [] ne = refl
other_first k i j (l ∷ ls) ne = rw (ne, other_first k i j ls ne) refl

or_false : (b : Bool) → (b || false) ≡ b
or_false true = refl
or_false false = refl

got : {A : Type 0} (xs : List A) (i : ℕ) (d : A) → i < length xs → slice_get xs i ≡ Some (slice_index_or xs i d)
got [] i d lt = absurd (omega arith)
got (x ∷ xs) zero d lt = refl
got (x ∷ xs) (suc i) d lt = got xs i d (omega arith)

module _ {A B : Type 0} (test : A → B → Bool) where
  pairs_later : (k : ℕ) (xs : List A) (ys : List B) (i j : ℕ) → i < k → has_pair (pairs_from test k xs ys) i j ≡ false
  pairs_later k [] ys i j lt = refl
  pairs_later k (x ∷ xs) ys i j lt =
      list_any-append (λ q. (q.0 == i) && (q.1 == j)) (map (λ l. (k, l)) (places_from (test x) 0 ys)) (pairs_from test (suc k) xs ys)
      ∙ ap₂ (λ b c. b || c) (other_first k i j (places_from (test x) 0 ys) (ne_eqb k i (omega arith))) (pairs_later (suc k) xs ys i j (omega arith))

  -- a pair of places stands in the list where its items are linked
  pair_at : (k : ℕ) (xs : List A) (ys : List B) (i j : ℕ) (x : A) (y : B) → slice_get xs i ≡ Some x → slice_get ys j ≡ Some y → has_pair (pairs_from test k xs ys) (k + i) j ≡ test x y
  pair_at k [] ys i j x y e f = cc
  pair_at k (z ∷ xs) ys zero j x y e f =
      let same : z ≡ x = cc in
      let here : k ≡ k + 0 = omega arith in
      let zeroth : 0 + j ≡ j = omega arith in
      subst (λ i. has_pair (pairs_from test k (z ∷ xs) ys) i j ≡ test x y) here
      (list_any-append (λ q. (q.0 == k) && (q.1 == j)) (map (λ l. (k, l)) (places_from (test z) 0 ys)) (pairs_from test (suc k) xs ys)
      ∙ ap₂ (λ b c. b || c)
      (same_first k j (places_from (test z) 0 ys) ∙ subst (λ i. list_any (λ l. l == i) (places_from (test z) 0 ys) ≡ test z y) zeroth (place_at (test z) 0 ys j y f))
      (pairs_later (suc k) xs ys k j (omega arith))
      ∙ or_false (test z y) ∙ ap (λ w. test w y) same)
  pair_at k (z ∷ xs) ys (suc i) j x y e f =
      let next : suc k + i ≡ k + suc i = omega arith in
      list_any-append (λ q. (q.0 == (k + suc i)) && (q.1 == j)) (map (λ l. (k, l)) (places_from (test z) 0 ys)) (pairs_from test (suc k) xs ys)
      ∙ ap₂ (λ b c. b || c)
      (other_first k (k + suc i) j (places_from (test z) 0 ys) (ne_eqb k (k + suc i) (omega arith)))
      (subst (λ n. has_pair (pairs_from test (suc k) xs ys) n j ≡ test x y) next (pair_at (suc k) xs ys i j x y e f))

  pub pairs_alike : (xs us : List A) (ys vs : List B) (a : A) (b : B) → length xs ≡ length us → length ys ≡ length vs → pairs_from test 0 xs ys ≡ pairs_from test 0 us vs
      → (i j : ℕ) → i < length xs → j < length ys → test (slice_index_or xs i a) (slice_index_or ys j b) ≡ test (slice_index_or us i a) (slice_index_or vs j b)
  pairs_alike xs us ys vs a b lx ly e i j li lj =
      sym (pair_at 0 xs ys i j (slice_index_or xs i a) (slice_index_or ys j b) (got xs i a li) (got ys j b lj))
      ∙ ap (λ ps. has_pair ps (0 + i) j) e
      ∙ pair_at 0 us vs i j (slice_index_or us i a) (slice_index_or vs j b) (got us i a (subst (λ n. i < n) lx li)) (got vs j b (subst (λ n. j < n) ly lj))
