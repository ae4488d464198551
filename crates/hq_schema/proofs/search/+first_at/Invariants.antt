use Rattle.std.proofs.Common.{length}
use Rattle.hq_schema.proofs.search.+first_at.Given as goal

abbrev pub decreases-first_at : goal.decreases-first_at
decreases-first_at g l = length l.places.now
