use Rattle.hq_sql_text.proofs.Whole.{one_tree}
use Rattle.hq_sql_text.proofs.statement.one_tree.Goals as goal

pub returns : goal.returns
returns c = one_tree
