-- Rows that are numbered.
use Rattle.std.proofs.Common.{◌≡◌, ◌∙◌, ℕ, zero, suc, ◌+◌, ◌<◌, ◌≤◌, List, [], ◌∷◌, ◌++◌, length, length-append, Bool, true, false, not, ◌&&◌, ◌||◌, arith, refl, sym, subst}
use Rattle.std.specs.List.{list_all, list_any}
use Rattle.std.specs.Cmp.{first_so, second_so}
use Rattle.std.proofs.lemmas.Bool.{and_from, not_from_false}
use Rattle.std.proofs.lemmas.List.Folds.{list_all-append, list_any-append}
use Rattle.hq_base.specs.Lists.{all_differ}
use Rattle.hq_model.specs.Database.{Row}
use Rattle.hq_generator.specs.Rows.{rows_to}

-- one row more
pub one_more_row : (row : ℕ → Row) (count : ℕ) → rows_to row (count + 1) ≡ rows_to row count ++ row (count + 1) ∷ []
one_more_row row count = let next : count + 1 ≡ suc count = omega arith in rw next refl

-- there are as many as are numbered
pub rows_count : (row : ℕ → Row) (count : ℕ) → length (rows_to row count) ≡ count
rows_count row zero = refl
rows_count row (suc n) = omega (arith, rows_count row n, length-append (rows_to row n) (row (suc n) ∷ []))

-- what each of them passes all pass
pub rows_pass : (p : Row → Bool) (row : ℕ → Row) (count : ℕ) → ((i : ℕ) → i ≤ count → p (row i) ≡ true) → list_all p (rows_to row count) ≡ true
rows_pass p row zero h = refl
rows_pass p row (suc n) h =
    list_all-append p (rows_to row n) (row (suc n) ∷ [])
    ∙ and_from (list_all p (rows_to row n)) (p (row (suc n)) && true) (rows_pass p row n (λ i le. h i (omega (arith, le)))) (and_from (p (row (suc n))) true (h (suc n) (omega arith)) refl)

neither : (a b : Bool) → not a ≡ true → not b ≡ true → not (a || b) ≡ true
neither true b h k = absurd cc
neither false b h k = k

-- a row more that equals none of those before
differ_more : (same : Row → Row → Bool) (xs : List Row) (x : Row) → all_differ same xs ≡ true → list_all (λ y. not (same y x)) xs ≡ true → all_differ same (xs ++ x ∷ []) ≡ true
differ_more same [] x h k = refl
differ_more same (y ∷ ys) x h k =
    let before = not (list_any (same y) ys) in
    let others = list_all (λ z. not (same z x)) ys in
    let none = subst (λ (b : Bool). not b ≡ true) (sym (list_any-append (same y) ys (x ∷ [])))
    (neither (list_any (same y) ys) (same y x || false) (first_so before (all_differ same ys) h) (neither (same y x) false (first_so (not (same y x)) others k) refl)) in
    and_from (not (list_any (same y) (ys ++ x ∷ []))) (all_differ same (ys ++ x ∷ [])) none
    (differ_more same ys x (second_so before (all_differ same ys) h) (second_so (not (same y x)) others k))

-- where each differs from those before it, all differ
pub rows_differ : (same : Row → Row → Bool) (row : ℕ → Row) (count : ℕ) → ((i j : ℕ) → i < j → same (row i) (row j) ≡ false) → all_differ same (rows_to row count) ≡ true
rows_differ same row zero h = refl
rows_differ same row (suc n) h =
    differ_more same (rows_to row n) (row (suc n)) (rows_differ same row n h)
    (rows_pass (λ y. not (same y (row (suc n)))) row n (λ i le. not_from_false (same (row i) (row (suc n))) (h i (suc n) (omega (arith, le)))))
