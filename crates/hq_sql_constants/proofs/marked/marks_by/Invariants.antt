use Rattle.std.proofs.Common.{take}
use Rattle.hq_load_index.specs.Indexes.{columns_of}
use Rattle.hq_sql_constants.specs.Sifted.{MarksAll}
use Rattle.hq_sql_constants.proofs.marked.marks_by.Given as goal

-- the marks by the values so far
abbrev pub invariant-loop-value : goal.invariant-loop-value
invariant-loop-value l = MarksAll l.rows (columns_of l.index) (take l.value-index l.values) l.marks.items
