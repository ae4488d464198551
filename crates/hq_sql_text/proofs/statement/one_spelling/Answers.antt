use Rattle.std.proofs.Common.{sym, ◌∙◌}
use Rattle.hq_sql_text.proofs.statement.one_spelling.Goals as goal

pub returns : goal.returns
returns c = λ a b s is_a is_b. is_a.1 ∙ sym is_b.1
