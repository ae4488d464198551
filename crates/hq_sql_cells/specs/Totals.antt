-- What an aggregate holds on its way over a list of cells.
use Rattle.std.specs.Prelude.{ℤ, ◌+ℤ◌, List, [], ◌∷◌, Bool, true, not, Option, Some, None, FitsSigned}
use Rattle.std.specs.Int.{w128}
use Rattle.std.specs.Ordering.{int_cmp, is_eq}
use Rattle.hq_base.specs.Cells.{CellTree, int_in, same_cell}

-- the sum after one more number
abbrev pub total_after : Option ℤ → ℤ → ℤ
total_after None n = n
total_after (Some total) n = total +ℤ n

-- each sum on the way fits 128 bits
abbrev pub SumsFit : Option ℤ → List CellTree → Type 0
SumsFit total [] = Unit {0}
SumsFit total (c ∷ cs) = FitsSigned w128 (total_after total (int_in c)) × SumsFit (Some (total_after total (int_in c))) cs

-- a cell is another one than the last
abbrev pub starts_group : Option CellTree → CellTree → Bool
starts_group None c = true
starts_group (Some last) c = not (same_cell last c)

-- two numbers are one
abbrev pub same_number : ℤ → ℤ → Bool
same_number m n = is_eq (int_cmp m n)

-- a number is another one than the last
abbrev pub starts_run : Option ℤ → ℤ → Bool
starts_run None n = true
starts_run (Some last) n = not (same_number last n)
