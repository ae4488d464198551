-- The file's records are those that it was written from, and it ends behind the last one.
use Rattle.hq_laws_written.proofs.Tables.Whole.{written_back}
use Rattle.hq_laws_written.proofs.table_laws.written_table_is_read_back.Goals as goal

pub returns : goal.returns
returns c = written_back
