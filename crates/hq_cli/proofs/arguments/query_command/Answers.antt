use Rattle.std.proofs.Common.{◌∙◌, ap₂}
use Rattle.std.proofs.lemmas.Result.{IfOk-weaker}
use Rattle.clap.specs.Words.{with_rule}
use Rattle.hq_cli.proofs.arguments.query_command.Goals as goal

pub returns : goal.returns
returns c = IfOk-weaker c.arg.result _ _ (λ m h. h.shape c.paged_arg.ensures.local ∙ ap₂ with_rule c.in_ok-request_command.ensures c.paged_arg.ensures.rule) c.arg.ensures
