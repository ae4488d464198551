use Rattle.hq_sql_check.proofs.Alike.{means_alike}
use Rattle.hq_sql_check.proofs.marks.only_scanned_tables_matter.Goals as goal

pub returns : goal.returns
returns c = means_alike
