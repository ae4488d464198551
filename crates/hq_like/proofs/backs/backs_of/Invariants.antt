use Rattle.std.proofs.Common.{ℕ, ◌≡◌, ◌+◌, List, vec_len}
use Rattle.std.specs.Global.{Vec}
use Rattle.hq_like.specs.Backs.{AreBacks, IsBack}
use Rattle.hq_like.proofs.backs.backs_of.Given as goal

-- the table so far, and its last entry
pub record Begun (letters : List ℕ) (backs : Vec ℕ) (state at : ℕ) : Type 0 where
  pub many : vec_len backs ≡ at + 1
  pub all : AreBacks letters backs.items at
  pub last : IsBack letters at state

abbrev pub invariant-loop-at : goal.invariant-loop-at
invariant-loop-at l = Begun l.letters l.backs l.state l.at
