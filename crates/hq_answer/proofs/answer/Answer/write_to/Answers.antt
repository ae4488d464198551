use Rattle.std.proofs.Common.{◌∙◌, ap, ◌++◌}
use Rattle.std.proofs.lemmas.Result.{on_ok_weaker}
use Rattle.hq_answer.proofs.Texts.{one_text}
use Rattle.hq_answer.proofs.answer.Answer.write_to.Goals as goal

pub returns-clause-value : goal.returns-clause-value
returns-clause-value c =
    on_ok_weaker c.put_answer.result (λ e j is. e ∙ ap (λ t. c.args.out.now ++ t) (one_text c.args.self.now j is)) c.put_answer.ensures
