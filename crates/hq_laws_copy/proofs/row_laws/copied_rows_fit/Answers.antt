use Rattle.hq_laws_copy.proofs.Rows.Answers.{rows_fit}
use Rattle.hq_laws_copy.proofs.row_laws.copied_rows_fit.Goals as goal

pub returns : goal.returns
returns c = rows_fit
