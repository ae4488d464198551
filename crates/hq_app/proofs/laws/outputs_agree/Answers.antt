use Rattle.hq_app.proofs.Worlds.{outputs_agree as the_law}
use Rattle.hq_app.proofs.laws.outputs_agree.Goals as goal

pub returns : goal.returns
returns c tables meta session text d e = the_law tables meta session text d e (c.replies_agree.ensures tables meta session text d e)
