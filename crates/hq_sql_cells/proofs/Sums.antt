-- A sum that has begun.
use Rattle.std.proofs.Common.{◌≡◌, ◌∙◌, refl, sym, ap, subst, true, false, filter, List, ◌∷◌, Option, Some, None, fold, ◌+ℤ◌}
use Rattle.std.specs.Prelude.{ℤ}
use Rattle.hq_base.specs.Aggregates.{is_taken, sum_of}
use Rattle.hq_base.specs.Cells.{CellTree, int, int_in}
use Rattle.hq_sql_cells.specs.Totals.{total_after, SumsFit}

-- the sum of the cells on top of one that may have begun
abbrev pub sum_from : Option ℤ → List CellTree → CellTree
sum_from None cs = sum_of cs
sum_from (Some total) cs = int (fold (λ sum d. sum +ℤ int_in d) total cs)

-- one more cell
pub sum_step : (sum : Option ℤ) (c : CellTree) (cs : List CellTree) → sum_from sum (c ∷ cs) ≡ sum_from (Some (total_after sum (int_in c))) cs
sum_step None c cs = refl
sum_step (Some total) c cs = refl

-- the next cell is taken
pub sum_taken : (sum more : Option ℤ) (c : CellTree) (rest left : List CellTree) (total : CellTree) (Fits : Type 0) → left ≡ c ∷ rest → is_taken c ≡ true → more ≡ Some (total_after sum (int_in c))
    → (sum_from sum (filter is_taken left) ≡ total) × (Fits → SumsFit sum (filter is_taken left)) → (sum_from more (filter is_taken rest) ≡ total) × (Fits → SumsFit more (filter is_taken rest))
sum_taken sum more c rest left total Fits split taken grows so_far =
    let first : filter is_taken (c ∷ rest) ≡ c ∷ filter is_taken rest = rw taken refl in
    let same : filter is_taken left ≡ c ∷ filter is_taken rest = ap (filter is_taken) split ∙ first in (
      ap (λ s. sum_from s (filter is_taken rest)) grows ∙ sym (ap (sum_from sum) same ∙ sum_step sum c (filter is_taken rest)) ∙ so_far.0,
      λ f. subst (λ s. SumsFit s (filter is_taken rest)) (sym grows) (subst (SumsFit sum) same (so_far.1 f)).1,
    )

-- or passed over
pub sum_passed : (sum more : Option ℤ) (c : CellTree) (rest left : List CellTree) (total : CellTree) (Fits : Type 0) → left ≡ c ∷ rest → is_taken c ≡ false → more ≡ sum
    → (sum_from sum (filter is_taken left) ≡ total) × (Fits → SumsFit sum (filter is_taken left)) → (sum_from more (filter is_taken rest) ≡ total) × (Fits → SumsFit more (filter is_taken rest))
sum_passed sum more c rest left total Fits split other stays so_far =
    let first : filter is_taken (c ∷ rest) ≡ filter is_taken rest = rw other refl in
    let same : filter is_taken left ≡ filter is_taken rest = ap (filter is_taken) split ∙ first in (
      ap (λ s. sum_from s (filter is_taken rest)) stays ∙ ap (sum_from sum) (sym same) ∙ so_far.0,
      λ f. subst (λ s. SumsFit s (filter is_taken rest)) (sym stays) (subst (SumsFit sum) same (so_far.1 f)),
    )
