-- Cells of rows: where they are, and how they compare.
use Rattle.std.proofs.Common.{◌≡◌, ◌∙◌, ℕ, zero, suc, ◌<◌, ◌≤◌, [], ◌∷◌, length, get_or, refl, sym, ap, Bool, true, false, arith}
use Rattle.std.specs.Ordering.{int_cmp, nat_cmp, bool_cmp, is_eq}
use Rattle.std.specs.Cmp.Lexicographic.{slice_cmp}
use Rattle.hq_base.specs.Cells.{CellTree, null, int, text, bool, json, cell_of}
use Rattle.hq_base.specs.Values.{value_cmp}
use Rattle.hq_base.specs.declared.value.Val.{Val}
use Rattle.hq_base.specs.declared.value.Val.TheVariants as val
use Rattle.hq_copy_filter.specs.Equal.{is_equal}
use Rattle.hq_model.specs.Database.{Row}
use Rattle.hq_model.specs.Logic.{equal, is_true, truth_of}
use Rattle.hq_model.specs.Seen.{row_cell}

there_at : (row : Row) (i : ℕ) (v : Val) → i < length row → v ≡ get_or row i v → v ≡ get_or row i val.Null
there_at [] i v lt is = absurd (omega arith)
there_at (x ∷ xs) zero v lt is = is
there_at (x ∷ xs) (suc i) v lt is = there_at xs i v (omega arith) is

beyond : (row : Row) (i : ℕ) → length row ≤ i → get_or row i val.Null ≡ val.Null
beyond [] i le = refl
beyond (x ∷ xs) zero le = absurd (omega arith)
beyond (x ∷ xs) (suc i) le = beyond xs i (omega arith)

-- the cell of a value that is there
pub cell_there : (row : Row) (i c : ℕ) (v : Val) → i ≡ c → i < length row → v ≡ get_or row i v → row_cell row c ≡ cell_of v
cell_there row i c v at lt is = ap (row_cell row) (sym at) ∙ ap cell_of (sym (there_at row i v lt is))

-- and of none
pub cell_beyond : (row : Row) (i c : ℕ) → i ≡ c → length row ≤ i → row_cell row c ≡ null
cell_beyond row i c at le = ap (row_cell row) (sym at) ∙ ap cell_of (beyond row i le)

true_of : (b : Bool) → is_true (truth_of b) ≡ b
true_of true = refl
true_of false = refl

-- values are equal as cells where they compare as equal
pub equal_values : (a b : Val) → is_equal (value_cmp a b) ≡ is_true (equal (cell_of a) (cell_of b))
equal_values val.Null val.Null = refl
equal_values val.Null (val.Int n) = refl
equal_values val.Null (val.Text t) = refl
equal_values val.Null (val.Bool c) = refl
equal_values (val.Int m) val.Null = refl
equal_values (val.Int m) (val.Int n) = sym (true_of (is_eq (int_cmp m n)))
equal_values (val.Int m) (val.Text t) = refl
equal_values (val.Int m) (val.Bool c) = refl
equal_values (val.Text s) val.Null = refl
equal_values (val.Text s) (val.Int n) = refl
equal_values (val.Text s) (val.Text t) = sym (true_of (is_eq (slice_cmp nat_cmp s t)))
equal_values (val.Text s) (val.Bool c) = refl
equal_values (val.Bool b) val.Null = refl
equal_values (val.Bool b) (val.Int n) = refl
equal_values (val.Bool b) (val.Text t) = refl
equal_values (val.Bool b) (val.Bool c) = sym (true_of (is_eq (bool_cmp b c)))

-- nothing equals NULL
pub none_equals : (c : CellTree) → is_true (equal c null) ≡ false
none_equals null = refl
none_equals (int n) = refl
none_equals (text s) = refl
none_equals (bool b) = refl
none_equals (json j) = refl

-- NULL equals nothing
pub null_equals : (c : CellTree) → is_true (equal null c) ≡ false
null_equals null = refl
null_equals (int n) = refl
null_equals (text s) = refl
null_equals (bool b) = refl
null_equals (json j) = refl
