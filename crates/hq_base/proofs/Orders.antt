-- The orders of cells and of sort keys are total, and values compare as their cells do.
use Rattle.std.proofs.Common.{◌≡◌, ◌∙◌, refl, sym, ap, Bool, true, false, ℕ, ℤ, List, Some, Ordering, Less, Equal, Greater, is_eq}
use Rattle.std.specs.Cmp.{IsTotalOrder, IsEquivalence, bool_cmp_total, int_ranks, Equal-is}
use Rattle.std.specs.Cmp.Lexicographic.{slice_cmp}
use Rattle.std.specs.Ordering.{nat_cmp, int_cmp, bool_cmp, ordering_then}
use Rattle.std.proofs.lemmas.Cmp.{on_total, then_total, back_total, eq_by_cmp_equiv, nat_cmp_total, int_cmp_total, nat_list_cmp_total}
use Rattle.std.proofs.lemmas.Slice.Eq.{bytes_eq-Decides}
use Rattle.std.proofs.lemmas.Map.Text.{is_eq-slice_cmp}
use Rattle.hq_base.specs.Cells.{same_cell, cell_of, cell_cmp, key_cmp, kind_of, int_in, text_in, bool_in, null_rank}
use Rattle.hq_base.specs.Values.{value_cmp}
use Rattle.hq_base.specs.declared.value.Val.{Val}
use Rattle.hq_base.specs.declared.value.Val.TheVariants as val

pub cell_cmp_total : IsTotalOrder cell_cmp
cell_cmp_total =
    then_total (on_total kind_of nat_cmp_total)
    (then_total (on_total int_in int_cmp_total) (then_total (on_total text_in nat_list_cmp_total) (on_total bool_in bool_cmp_total)))

pub key_cmp_total : (desc nulls_first : Bool) → IsTotalOrder (key_cmp desc nulls_first)
key_cmp_total true nulls_first = then_total (on_total (null_rank nulls_first) nat_cmp_total) (back_total cell_cmp_total)
key_cmp_total false nulls_first = then_total (on_total (null_rank nulls_first) nat_cmp_total) cell_cmp_total

then_equal : (o : Ordering) → ordering_then o Equal ≡ o
then_equal Less = refl
then_equal Equal = refl
then_equal Greater = refl

-- where two values compare, their cells compare alike
pub value_cmp_cells : (a b : Val) (o : Ordering) → value_cmp a b ≡ Some o → cell_cmp (cell_of a) (cell_of b) ≡ o
value_cmp_cells (val.Int m) (val.Int n) o h = let is : int_cmp m n ≡ o = cc in then_equal (int_cmp m n) ∙ is
value_cmp_cells (val.Text s) (val.Text t) o h = let is : slice_cmp nat_cmp s t ≡ o = cc in then_equal (slice_cmp nat_cmp s t) ∙ is
value_cmp_cells (val.Bool x) (val.Bool y) o h = let is : bool_cmp x y ≡ o = cc in is
value_cmp_cells _ _ o h = cc

-- ---- cells that are not distinct

pub same_cell_equiv : IsEquivalence same_cell
same_cell_equiv = eq_by_cmp_equiv cell_cmp_total

same_int : (m n : ℤ) → int_cmp m n ≡ Equal → m ≡ n
same_int m n is = rw is at (int_ranks m n)

same_text : (s t : List ℕ) → is_eq (slice_cmp nat_cmp s t) ≡ true → s ≡ t
same_text s t is = (bytes_eq-Decides s t).0 (sym (is_eq-slice_cmp s t) ∙ is)

same_bool : (x y : Bool) → is_eq (bool_cmp x y) ≡ true → x ≡ y
same_bool true true is = refl
same_bool true false is = cc
same_bool false true is = cc
same_bool false false is = refl

-- values whose cells are not distinct are equal
pub same_value : (a b : Val) → same_cell (cell_of a) (cell_of b) ≡ true → a ≡ b
same_value val.Null val.Null is = refl
same_value (val.Int m) (val.Int n) is = ap val.Int (same_int m n ((Equal-is (int_cmp m n)).0 (ap is_eq (sym (then_equal (int_cmp m n))) ∙ is)))
same_value (val.Text s) (val.Text t) is = ap val.Text (same_text s t (ap is_eq (sym (then_equal (slice_cmp nat_cmp s t))) ∙ is))
same_value (val.Bool x) (val.Bool y) is = ap val.Bool (same_bool x y is)
same_value _ _ is = cc
