use Rattle.hq_gql_lexer.proofs.StepsLemmas.{made_more}
use Rattle.hq_gql_lexer.proofs.characters.pieces.Goals as goal

pub loop-done-preserved : goal.loop-done-preserved
loop-done-preserved c =
    let step = c.in_ok-piece.ensures in
    rw c.in_ok-put.ensures (made_more _ _ _ _ _ _ _ c.loop-done.invariant step.exact step.within.0 step.within.1)
