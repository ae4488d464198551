use Rattle.std.proofs.Common.{ℕ, List, ◌≤◌}
use Rattle.hq_like.proofs.Letters.{Waits}
use Rattle.hq_like.proofs.backs.advanced.Given as goal

-- so many first letters count for those that were read, and are no more
pub record Waiting (letters : List ℕ) (letter read state : ℕ) : Type 0 where
  pub within : state ≤ read
  pub waits : Waits letters letter read state

abbrev pub invariant-loop-state : goal.invariant-loop-state
invariant-loop-state l = Waiting l.letters l.letter l.read l.state

abbrev pub decreases-loop-state : goal.decreases-loop-state
decreases-loop-state l = l.state
