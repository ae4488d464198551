-- Cells, one behind the other.
use Rattle.std.specs.Prelude.{ℕ, zero, suc, List, [], ◌∷◌, flat_map, Option, Some, None}
use Rattle.std.specs.Option.{option_and_then, option_map}
use Rattle.hq_base.specs.declared.value.Val.{Val}
use Rattle.hq_load_pages.specs.Cells.{cell_bytes, cell_front}

-- the bytes of cells
abbrev pub run_of : List Val → List ℕ
run_of = flat_map cell_bytes

-- so many cells, where the bytes are exactly theirs
abbrev pub cells_of : (count : ℕ) → List ℕ → Option (List Val)
cells_of zero [] = Some []
cells_of zero (b ∷ bytes) = None
cells_of (suc n) bytes = option_and_then (λ c. option_map (λ vs. c.0 ∷ vs) (cells_of n c.1)) (cell_front bytes)
