-- Fronts of texts: numbers by whose order most texts are told apart.
use Rattle.std.specs.Prelude.{◌<◌, ℕ, zero, suc, ◌+◌, ◌*◌, slice_index_or, List, [], ◌∷◌, Option, Some, None, cond, Bool}
use Rattle.std.specs.declared.cmp.Ordering.{Ordering}
use Rattle.std.specs.declared.cmp.Ordering.TheVariants.{Equal}
use Rattle.std.specs.Ordering.{nat_cmp}
use Rattle.hq_base.specs.Cells.{CellTree, text, text_in}
use Rattle.hq_base.specs.Aggregates.{first_cell}

-- a number, and behind it so many bytes as its further digits of base 256; zeros stand behind a shorter text
abbrev pub digits : (count number : ℕ) → List ℕ → ℕ
digits zero number bytes = number
digits (suc n) number [] = digits n (number * 256) []
digits (suc n) number (b ∷ bytes) = digits n (number * 256 + b) bytes

-- the first eight bytes
abbrev pub front_of : List ℕ → ℕ
front_of = digits 8 0

abbrev pub AreBytes : List ℕ → Type 0
AreBytes bs = (i : ℕ) → slice_index_or bs i 0 < 256

-- the front of the first key, where that is a text
abbrev pub first_front : List CellTree → Option ℕ
first_front (text t ∷ keys) = Some (front_of t)
first_front keys = None

-- the bytes of the first key, where that is a text
abbrev pub first_bytes : List CellTree → List ℕ
first_bytes keys = text_in (first_cell keys)

-- the order of two fronts as a sort key has it; none where one is no text
abbrev pub front_cmp : (desc : Bool) → Option ℕ → Option ℕ → Ordering
front_cmp desc (Some l) (Some r) = cond desc (nat_cmp r l) (nat_cmp l r)
front_cmp desc (Some l) None = Equal
front_cmp desc None r = Equal
