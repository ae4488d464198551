use Rattle.std.proofs.Common.{length}
use Rattle.hq_load_index.proofs.key.+rows_cmp.Given as goal

abbrev pub decreases-rows_cmp : goal.decreases-rows_cmp
decreases-rows_cmp l = length l.columns.now
