use Rattle.hq_request.proofs.Steps.{body_made}
use Rattle.hq_request.proofs.laws.requests_are_made.Goals as goal

pub returns : goal.returns
returns c schema tables meta session body ask = body_made schema tables meta session body ask
