use Rattle.hq_request_collect.proofs.Less.{less_is}
use Rattle.hq_request_collect.proofs.json.without.Goals as goal

pub returns : goal.returns
returns c = less_is c.checked_sub.result c.args.nodes c.args.left c.checked_sub.ensures
