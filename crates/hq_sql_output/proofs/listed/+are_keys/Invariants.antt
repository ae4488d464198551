use Rattle.std.proofs.Common.{length}
use Rattle.hq_sql_output.proofs.listed.+are_keys.Given as goal

-- the keys that are left
abbrev pub decreases-are_keys : goal.decreases-are_keys
decreases-are_keys l = length l.keys.now
