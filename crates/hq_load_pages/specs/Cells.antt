-- A cell as bytes: a tag, then 8 bytes of a whole number in two's complement, or 4 bytes of length and the bytes of a text; high byte first.
use Rattle.std.specs.Prelude.{ℕ, ◌≡◌, List, [], ◌∷◌, ◌++◌, length, take, drop, true, false, nat_le, nat_eq, Option, Some, None, if◌then◌else◌}
use Rattle.std.specs.Int.{w32, w64, to_be_bytes, from_be_bytes, cast_signed, cast_unsigned}
use Rattle.std.specs.Str.{is_utf8}
use Rattle.hq_base.specs.Text.{has_zero}
use Rattle.hq_base.specs.declared.value.Val.{Val}
use Rattle.hq_base.specs.declared.value.Val.TheVariants as val

-- the bytes of a cell
abbrev pub cell_bytes : Val → List ℕ
cell_bytes val.Null = 0 ∷ []
cell_bytes (val.Int n) = 1 ∷ to_be_bytes w64 (cast_unsigned w64 n)
cell_bytes (val.Text s) = 2 ∷ to_be_bytes w32 (length s) ++ s
cell_bytes (val.Bool false) = 3 ∷ []
cell_bytes (val.Bool true) = 4 ∷ []

-- a cell, and the bytes behind it
abbrev pub int_front : List ℕ → Option (Val × List ℕ)
int_front rest = if nat_le 8 (length rest) then Some (val.Int (cast_signed w64 (from_be_bytes w64 (take 8 rest))), drop 8 rest) else None

-- a text of this length
abbrev pub text_of_length : ℕ → List ℕ → Option (Val × List ℕ)
text_of_length n rest =
    if nat_le n (length rest) then (if is_utf8 (take n rest) then (if has_zero (take n rest) then None else Some (val.Text (take n rest), drop n rest)) else None) else None

abbrev pub text_front : List ℕ → Option (Val × List ℕ)
text_front rest = if nat_le 4 (length rest) then text_of_length (from_be_bytes w32 (take 4 rest)) (drop 4 rest) else None

abbrev pub cell_behind : (tag : ℕ) → List ℕ → Option (Val × List ℕ)
cell_behind tag rest =
    if nat_eq tag 0 then Some (val.Null, rest)
    else (if nat_eq tag 1 then int_front rest
    else (if nat_eq tag 2 then text_front rest
    else (if nat_eq tag 3 then Some (val.Bool false, rest)
    else (if nat_eq tag 4 then Some (val.Bool true, rest) else None))))

-- the cell at the front of the bytes, and the bytes behind it
abbrev pub cell_front : List ℕ → Option (Val × List ℕ)
cell_front [] = None
cell_front (tag ∷ rest) = cell_behind tag rest

-- the cell reads back from its bytes, whatever stands behind them
abbrev pub ReadsBack : Val → Type 0
ReadsBack v = (rest : List ℕ) → cell_front (cell_bytes v ++ rest) ≡ Some (v, rest)
