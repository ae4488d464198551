use Rattle.hq_request_build.proofs.Sessions.{filter_refuses}
use Rattle.hq_request_build.proofs.laws.filters_refuse.Goals as goal

pub returns : goal.returns
returns c role m s vars t = filter_refuses role m s vars t (c.masks_add_no_fault.ensures.binds role m s vars t)
