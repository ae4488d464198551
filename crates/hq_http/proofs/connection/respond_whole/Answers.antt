use Rattle.std.proofs.Common.{rules}
use Rattle.hq_http.proofs.Responses.{responds_at}
use Rattle.hq_http.proofs.connection.respond_whole.Goals as goal

pub returns-clause-responds : goal.returns-clause-responds
returns-clause-responds g c =
    responds_at _ _ c.args.bytes.now c.front-head.result.now c.args.headers.now c.split_at-3.result.0.now c.split_at.result.0.now
    c.split_at-2.result.1.now c.args.request c.respond_at.result (search rules) (search rules) (search rules) (search rules)
    c.requires.whole c.requires.spans c.respond_at.ensures.responds
