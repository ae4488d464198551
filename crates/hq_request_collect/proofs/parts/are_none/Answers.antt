use Rattle.hq_request_collect.proofs.Trees.{some_there}
use Rattle.hq_request_collect.proofs.parts.are_none.Goals as goal

pub returns-in-len1-up : goal.returns-in-len1-up
returns-in-len1-up c = some_there c.args.fields.now c.in-len1-up.len_at_least
