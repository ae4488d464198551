use Rattle.hq_engine.proofs.Worlds.{replies_agree as the_law}
use Rattle.hq_engine.proofs.laws.replies_agree.Goals as goal

pub returns : goal.returns
returns c tables meta session body d e =
    the_law tables meta session body d e (λ ask. c.requests_are_formed.ensures tables meta session body ask) (λ ask. c.worlds_agree.ensures tables meta session ask d e)
