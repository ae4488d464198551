use Rattle.std.proofs.Common.{◌≡◌}
use Rattle.hq_generator.specs.Rows.{article_row, rows_to}
use Rattle.hq_generator.proofs.articles.article_list.Given as goal

-- the rows so far
abbrev pub invariant-loop-i : goal.invariant-loop-i
invariant-loop-i l = l.rows ≡ rows_to (article_row l.authors) l.i
