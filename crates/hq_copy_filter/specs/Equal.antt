-- Values that are equal.
use Rattle.std.specs.Prelude.{Bool, false, Option, Some, None}
use Rattle.std.specs.Ordering.{is_eq}
use Rattle.std.specs.declared.cmp.Ordering.{Ordering}

-- they compare, and as equal
abbrev pub is_equal : Option Ordering → Bool
is_equal None = false
is_equal (Some o) = is_eq o
