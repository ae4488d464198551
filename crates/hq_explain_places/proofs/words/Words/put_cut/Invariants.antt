use Rattle.std.proofs.Common.{ℕ, List, Option, length}
use Rattle.hq_explain_places.specs.Words.{Adds, shown}
use Rattle.hq_explain_places.proofs.words.Words.put_cut.Given as goal

-- what is left to be shown completes what all is shown as
abbrev pub invariant-bytes : goal.invariant-bytes
invariant-bytes l = (new : Option (List ℕ)) → Adds l.self new (shown l.left l.rest) → Adds l.initial.self new (shown l.initial.left l.initial.rest)

abbrev pub decreases-bytes : goal.decreases-bytes
decreases-bytes l = length l.rest
