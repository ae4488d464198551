use Rattle.hq_laws_copy.proofs.Views.Answers.{copy_answers}
use Rattle.hq_laws_copy.proofs.view_laws.copies_answer.Goals as goal

pub returns : goal.returns
returns c tables m session d a k = copy_answers tables m session d a k (c.resolves_alike.ensures.requests tables m session a d) (c.copies_answer_alike.ensures _ _ _ _ _ _ _ _ _)
