use Rattle.hq_laws_request.proofs.Built.Requests.{valid_faults}
use Rattle.hq_laws_request.proofs.build_laws.faults.valid_faults.Goals as goal

pub returns : goal.returns
returns c tables meta session body fault = valid_faults tables meta session body (c.valid_builds.ensures tables meta session) c.parsed_is_due.ensures fault
