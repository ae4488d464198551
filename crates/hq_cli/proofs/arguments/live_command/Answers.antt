use Rattle.std.proofs.Common.{◌∙◌, ap₂}
use Rattle.std.proofs.lemmas.Result.{IfOk-weaker}
use Rattle.clap.specs.Words.{with_rule}
use Rattle.hq_cli.proofs.arguments.live_command.Goals as goal

pub returns : goal.returns
returns c =
    let one = c.in_ok-arg.ensures.shape c.dir_arg.ensures.local ∙ ap₂ with_rule c.bare_command.ensures c.dir_arg.ensures.rule in
    let two = c.in_ok-arg-2.ensures.shape c.port_arg.ensures.local ∙ ap₂ with_rule one c.port_arg.ensures.rule in
    let three = c.in_ok-arg-3.ensures.shape c.connections_arg.ensures.local ∙ ap₂ with_rule two c.connections_arg.ensures.rule in
    let four = c.in_ok-arg-4.ensures.shape c.secret_arg.ensures.local ∙ ap₂ with_rule three c.secret_arg.ensures.rule in
    IfOk-weaker c.arg-5.result _ _ (λ m h. h.shape c.unauthorized_arg.ensures.local ∙ ap₂ with_rule four c.unauthorized_arg.ensures.rule) c.arg-5.ensures
