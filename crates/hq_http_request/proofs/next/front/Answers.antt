use Rattle.std.proofs.Common.{sym}
use Rattle.std.proofs.lemmas.List.{take_all}
use Rattle.hq_http_request.proofs.next.front.Goals as goal

pub returns-else-bytes-gt-HEAD_LIMIT : goal.returns-else-bytes-gt-HEAD_LIMIT
returns-else-bytes-gt-HEAD_LIMIT c = sym (take_all 16384 c.args.bytes.now c.if-bytes-gt-HEAD_LIMIT.false)
