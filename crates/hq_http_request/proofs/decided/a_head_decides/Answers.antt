use Rattle.hq_http_request.proofs.HeadDecisions.{head_decides, targets_are_open}
use Rattle.hq_http_request.proofs.decided.a_head_decides.Goals as goal

pub returns : goal.returns
returns c = record { decides = head_decides; targets = targets_are_open }
