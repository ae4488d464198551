use Rattle.std.proofs.Common.{◌≡◌}
use Rattle.hq_generator.specs.Rows.{author_row, rows_to}
use Rattle.hq_generator.proofs.authors.author_list.Given as goal

-- the rows so far
abbrev pub invariant-loop-i : goal.invariant-loop-i
invariant-loop-i l = l.rows ≡ rows_to author_row l.i
