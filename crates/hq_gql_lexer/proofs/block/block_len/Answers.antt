use Rattle.std.proofs.Common.{refl, sym}
use Rattle.hq_gql_lexer.proofs.BlockLemmas.{open_more}
use Rattle.hq_gql_lexer.proofs.block.block_len.Goals as goal

pub loop-at-preserved : goal.loop-at-preserved
loop-at-preserved c =
    open_more _ _ _ _ c.loop-at.invariant c.loop-at-test.true refl (sym c.if-quotes_are_next.ensures.value) c.block_step-at.ensures.value c.block_step-at.ensures.some c.block_step-at.ensures.within
