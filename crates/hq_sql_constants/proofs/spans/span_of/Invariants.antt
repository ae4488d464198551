use Rattle.std.proofs.Common.{take}
use Rattle.hq_load_index.specs.Indexes.{entries_of}
use Rattle.hq_sql_constants.specs.Ranged.{StandsBetween}
use Rattle.hq_sql_constants.proofs.spans.span_of.Given as goal

-- the entries that meet the comparisons so far stand there
abbrev pub invariant-loop-bound : goal.invariant-loop-bound
invariant-loop-bound l = StandsBetween l.column l.rows (entries_of l.index) (take l.bound-index l.bounds) l.span
