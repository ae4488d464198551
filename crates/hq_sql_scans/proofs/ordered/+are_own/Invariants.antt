use Rattle.std.proofs.Common.{length}
use Rattle.hq_sql_scans.proofs.ordered.+are_own.Given as goal

abbrev pub decreases-are_own : goal.decreases-are_own
decreases-are_own l = length l.order.now
