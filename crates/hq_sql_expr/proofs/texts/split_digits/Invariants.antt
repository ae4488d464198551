use Rattle.std.proofs.Common.{◌≡◌, ◌++◌, take, drop}
use Rattle.hq_sql_expr.specs.Reading.{leading_digits, after_digits}
use Rattle.hq_sql_expr.proofs.texts.split_digits.Given as goal

abbrev pub invariant-loop-i : goal.invariant-loop-i
invariant-loop-i l = (leading_digits l.bytes ≡ take l.i l.bytes ++ leading_digits (drop l.i l.bytes)) × (after_digits l.bytes ≡ after_digits (drop l.i l.bytes))
