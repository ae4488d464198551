use Rattle.hq_laws_copy_replies.specs.Requests.Laws.{session_view}
use Rattle.hq_laws_copy_replies.proofs.Replies.Replies.{replies_alike}
use Rattle.hq_laws_copy.specs.Views.Laws.{numbers}
use Rattle.hq_model.specs.Permission.{role_of}
use Rattle.hq_model.specs.Schema.{schema_of}
use Rattle.hq_laws_copy_replies.proofs.reply_laws.copies_answer_each_body.Goals as goal

pub returns : goal.returns
returns c = λ tables m session d k body.
    replies_alike tables m session d k body (c.copied_requests_are_renumbered.ensures tables m session d k body) (λ a. c.requests_are_formed.ensures tables m session body a)
    (λ a. c.copies_answer.ensures tables m session d a k) (c.copied_schema_is_renumbered.ensures tables m session (session_view tables m session d) k)
    (c.numbers_change_origins_alone.ensures (numbers (role_of session.role) m (schema_of tables m))) c.origins_change_no_introspection.ensures
