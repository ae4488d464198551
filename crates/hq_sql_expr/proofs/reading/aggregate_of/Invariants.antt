use Rattle.std.proofs.Common.{◌≡◌, drop}
use Rattle.hq_base.specs.Aggregates.{all_aggregates}
use Rattle.hq_sql_tree.specs.Word.{aggregate_word}
use Rattle.hq_sql_expr.specs.Reading.{first_word}
use Rattle.hq_sql_expr.proofs.reading.aggregate_of.Given as goal

-- the word of none of those before stands here
abbrev pub invariant-loop-aggregate : goal.invariant-loop-aggregate
invariant-loop-aggregate l = first_word aggregate_word (drop l.aggregate-index l.aggregate-items) l.bytes ≡ first_word aggregate_word all_aggregates l.bytes
