-- Rows of one width that stand one after the other.
use Rattle.std.specs.Prelude.{ℕ, zero, suc, List, [], ◌∷◌, take, drop}
use Rattle.hq_base.specs.declared.value.Val.{Val}

-- so many rows of this width, from the front of the values on
abbrev pub chunked : (width count : ℕ) → List Val → List (List Val)
chunked width zero values = []
chunked width (suc count) values = take width values ∷ chunked width count (drop width values)
