-- How values compare (PostgreSQL, comparison operators, with COLLATE "C").
use Rattle.std.specs.Prelude.{Option, Some, None}
use Rattle.std.specs.declared.cmp.Ordering.{Ordering}
use Rattle.std.specs.Ordering.{nat_cmp, int_cmp, bool_cmp}
use Rattle.std.specs.Cmp.Lexicographic.{slice_cmp}
use Rattle.hq_base.specs.declared.value.Val.{Val}
use Rattle.hq_base.specs.declared.value.Val.TheVariants.{Int, Text, Bool}

-- whole numbers by value, texts by their bytes, false before true; with NULL or across kinds there is no answer
abbrev pub value_cmp : Val → Val → Option Ordering
value_cmp (Int m) (Int n) = Some (int_cmp m n)
value_cmp (Text s) (Text t) = Some (slice_cmp nat_cmp s t)
value_cmp (Bool a) (Bool b) = Some (bool_cmp a b)
value_cmp _ _ = None
