use Rattle.std.proofs.Common.{length}
use Rattle.hq_load_index.proofs.key.+key_cmp.Given as goal

abbrev pub decreases-key_cmp : goal.decreases-key_cmp
decreases-key_cmp l = length l.columns.now
