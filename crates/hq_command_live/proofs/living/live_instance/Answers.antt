use Rattle.std.proofs.Common.{sym}
use Rattle.hq_command_live.proofs.Talks.{where_failed}
use Rattle.hq_command_live.proofs.living.live_instance.Goals as goal

pub returns-then-is_err-clause-hall : goal.returns-then-is_err-clause-hall
returns-then-is_err-clause-hall g c = λ _. where_failed c.listen.result (sym c.if-is_err.ensures.value) c.listen.ensures.cause.failed
