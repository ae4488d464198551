use Rattle.std.proofs.Common.{◌-◌, length}
use Rattle.hq_gql_lexer.proofs.BlockLemmas.{IsOpen}
use Rattle.hq_gql_lexer.proofs.block.block_len.Given as goal

abbrev pub invariant-loop-at : goal.invariant-loop-at
invariant-loop-at l = IsOpen l.at l.bytes

abbrev pub decreases-loop-at : goal.decreases-loop-at
decreases-loop-at l = length l.bytes - l.at
