use Rattle.std.proofs.Common.{◌≡◌, length}
use Rattle.hq_sql_expr.specs.Reading.{unquoted}
use Rattle.hq_sql_expr.proofs.Quotes.{with_front}
use Rattle.hq_sql_expr.proofs.texts.unquoted_of.Given as goal

abbrev pub invariant-loop-b : goal.invariant-loop-b
invariant-loop-b l = with_front l.text.items (unquoted l.quote l.rest) ≡ unquoted l.quote l.initial.rest

abbrev pub decreases-loop-b : goal.decreases-loop-b
decreases-loop-b l = length l.rest
