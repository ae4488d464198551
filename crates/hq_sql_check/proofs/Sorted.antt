-- Names differ exactly where, sorted, each differs from the next one.
use Rattle.std.specs.Borrow.{Bor}
use Rattle.std.proofs.Common.{◌≡◌, refl, sym, ap, ◌∙◌, ℕ, List, [], ◌∷◌, Bool, true, false, not, cond, ◌&&◌, ◌||◌, is_gt, Ordering, Less, Equal, Greater, bytes_eq}
use Rattle.std.specs.List.{list_any}
use Rattle.std.specs.Ordering.{nat_cmp, is_eq, ordering_reverse}
use Rattle.std.specs.Cmp.{IsTotalOrder}
use Rattle.std.specs.Cmp.Lexicographic.{slice_cmp}
use Rattle.std.proofs.lemmas.Cmp.{nat_list_cmp_total}
use Rattle.std.proofs.lemmas.Map.Text.{is_eq-slice_cmp}
use Rattle.hq_base.specs.Lists.{all_differ, put, sort, Each, Before, Ascends}
use Rattle.hq_base.proofs.Sorts.{put_any, sort_any, ascends_sort, sort_map}
use Rattle.hq_sql_check.specs.Scopes.{texts, neighbours_differ}

shuffle : (s a b c : Bool) → (not (s || a) && (not b && c)) ≡ (not (s || b) && (not a && c))
shuffle true a b c = refl
shuffle false true true c = refl
shuffle false true false c = refl
shuffle false false true c = refl
shuffle false false false c = refl

module _ {A : Type 0} (R : A → A → Ordering) (same : A → A → Bool) (turn : (x y : A) → same x y ≡ same y x) where
  -- an item put at its place differs from the others as one in front
  put_differ : (x : A) (xs : List A) → all_differ same (put R x xs) ≡ all_differ same (x ∷ xs)
  put_differ x [] = refl
  put_differ x (y ∷ ys) =
      let placed : (b : Bool) → all_differ same (cond b (y ∷ put R x ys) (x ∷ (y ∷ ys))) ≡ all_differ same (x ∷ (y ∷ ys)) =
      elim [
        | true ↦ rw (put_any R (same y) x ys, put_differ x ys, turn y x) (shuffle (same x y) (list_any (same y) ys) (list_any (same x) ys) (all_differ same ys))
        | false ↦ refl
      ] in
      placed (is_gt (R x y))

  -- a sort leaves what differs
  pub sort_differ : (xs : List A) → all_differ same (sort R xs) ≡ all_differ same xs
  sort_differ [] = refl
  sort_differ (x ∷ xs) = put_differ x (sort R xs) ∙ rw (sort_any R (same x) xs, sort_differ xs) refl

-- what two orderings that are not greater say
clash : (p : Ordering) → is_gt p ≡ false → is_gt (ordering_reverse p) ≡ false → is_eq (ordering_reverse p) ≡ false → ⊥
clash Less a b c = cc
clash Equal a b c = cc
clash Greater a b c = cc

module _ {A : Type 0} {R : A → A → Ordering} (o : IsTotalOrder R) (same : A → A → Bool) (tied : (x y : A) → is_eq (R x y) ≡ same x y) where
  -- an item that is less than the first one is less than the others
  alone : (x y z : A) → same x y ≡ false → Before R x y → Before R y z → same x z ≡ false
  alone x y z apart first later =
      let back : R z y ≡ ordering_reverse (R y z) = o.antisymm z y in
      let go : (r : Ordering) → R x z ≡ r → is_eq r ≡ false =
      elim [
        | Less ↦ λ e. refl
        | Equal ↦ λ e.
            let same_as : R x y ≡ ordering_reverse (R y z) = o.congr x z y e ∙ back in
            absurd (clash (R y z) later (ap is_gt (sym same_as) ∙ first) (ap is_eq (sym same_as) ∙ (tied x y ∙ apart)))
        | Greater ↦ λ e. refl
      ] in
      sym (tied x z) ∙ go (R x z) refl

  none_same : (x y : A) (zs : List A) → same x y ≡ false → Before R x y → Each (Before R y) zs → list_any (same x) zs ≡ false
  none_same x y [] apart first h = refl
  none_same x y (z ∷ zs) apart first h = rw (alone x y z apart first h.0, none_same x y zs apart first h.1) refl

  -- in an ascending list it is enough to look at neighbours
  pub neighbours_tell : (xs : List A) → Ascends R xs → neighbours_differ same xs ≡ all_differ same xs
  neighbours_tell [] h = refl
  neighbours_tell (x ∷ []) h = refl
  neighbours_tell (x ∷ (y ∷ ys)) h =
      let later = neighbours_tell (y ∷ ys) h.1 in
      let step : (b : Bool) → same x y ≡ b → (not b && neighbours_differ same (y ∷ ys)) ≡ (not (b || list_any (same x) ys) && all_differ same (y ∷ ys)) =
      elim [
        | true ↦ λ e. refl
        | false ↦ λ e. rw (none_same x y ys e h.0.0 h.1.0) later
      ] in
      step (same x y) refl

eq_back : (p : Ordering) → is_eq (ordering_reverse p) ≡ is_eq p
eq_back Less = refl
eq_back Equal = refl
eq_back Greater = refl

bytes_turn : (x y : List ℕ) → bytes_eq x y ≡ bytes_eq y x
bytes_turn x y = sym (is_eq-slice_cmp x y) ∙ (ap is_eq (nat_list_cmp_total.antisymm x y) ∙ (eq_back (slice_cmp nat_cmp y x) ∙ is_eq-slice_cmp y x))

-- texts that are lent, sorted by their bytes
pub names_differ : (names : List (Bor (List ℕ))) → neighbours_differ bytes_eq (texts (sort (λ a b. slice_cmp nat_cmp a.now b.now) names)) ≡ all_differ bytes_eq (texts names)
names_differ names =
    ap (neighbours_differ bytes_eq) (sym (sort_map (λ (text : Bor (List ℕ)). text.now) (slice_cmp nat_cmp) names))
    ∙ (neighbours_tell nat_list_cmp_total bytes_eq is_eq-slice_cmp (sort (slice_cmp nat_cmp) (texts names)) (ascends_sort nat_list_cmp_total (texts names))
    ∙ sort_differ (slice_cmp nat_cmp) bytes_eq bytes_turn (texts names))
