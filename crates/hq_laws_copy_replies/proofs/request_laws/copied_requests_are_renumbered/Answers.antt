use Rattle.std.proofs.lemmas.Bool.{and_parts}
use Rattle.hq_model.specs.Permission.{role_of}
use Rattle.hq_model.specs.Schema.{schema_of}
use Rattle.hq_laws_copy_replies.specs.Requests.Laws.{session_view}
use Rattle.hq_laws_copy.specs.Views.Laws.{numbers}
use Rattle.hq_schema_of_role.specs.RoleSchema.{role_schema}
use Rattle.hq_schema_roles.specs.Access.{access_of}
use Rattle.hq_laws_copy_replies.proofs.Requests.Requests.{renumbered}
use Rattle.hq_laws_copy_replies.proofs.request_laws.copied_requests_are_renumbered.Goals as goal

pub returns : goal.returns
returns c = λ tables m session d k body fit done.
    renumbered tables m session d k body (c.numbers_change_origins_alone.ensures (numbers (role_of session.role) m (schema_of tables m)))
    c.origins_change_no_fault.ensures.documents c.origins_change_no_fault.ensures.fields c.origins_change_no_variable.ensures
    (c.leads_where_permitted.ensures tables m (role_of session.role) (and_parts _ _ (and_parts _ _ (and_parts _ _ fit).0).0).0)
    (c.copied_schema_is_renumbered.ensures tables m session (session_view tables m session d) k)
    (λ z vars root there fs. c.fields_are_renumbered.ensures (schema_of tables m) z (numbers (role_of session.role) m (schema_of tables m)) (access_of m (role_of session.role))
    (role_schema tables m (role_of session.role)) vars root there fs)
    fit done
