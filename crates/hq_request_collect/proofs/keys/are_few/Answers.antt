use Rattle.std.proofs.Common.{ap, sym, nat_le}
use Rattle.hq_request_collect.proofs.Trees.{many_keys}
use Rattle.hq_request_collect.proofs.keys.are_few.Goals as goal

pub returns : goal.returns
returns c = ap (λ n. nat_le n 50) (sym (many_keys c.args.fields.now))
