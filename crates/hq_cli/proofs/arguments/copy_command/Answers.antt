use Rattle.std.proofs.Common.{◌∙◌, ap₂}
use Rattle.std.proofs.lemmas.Result.{IfOk-weaker}
use Rattle.clap.specs.Words.{with_rule}
use Rattle.hq_cli.proofs.arguments.copy_command.Goals as goal

pub returns : goal.returns
returns c =
    let one = c.in_ok-arg.ensures.shape c.dir_arg.ensures.local ∙ ap₂ with_rule c.bare_command.ensures c.dir_arg.ensures.rule in
    let two = c.in_ok-arg-2.ensures.shape c.part_arg.ensures.local ∙ ap₂ with_rule one c.part_arg.ensures.rule in
    IfOk-weaker c.arg-3.result _ _ (λ m h. h.shape c.headers_arg.ensures.local ∙ ap₂ with_rule two c.headers_arg.ensures.rule) c.arg-3.ensures
