use Rattle.hq_schema_of_role.specs.RoleSchema.{role_schema}
use Rattle.hq_model.specs.Permission.{role_of}
use Rattle.hq_laws_request.proofs.Formed.MadeFormed.{made_formed}
use Rattle.hq_laws_request.proofs.form_laws.laws.requests_are_formed.Goals as goal

pub returns : goal.returns
returns c tables meta session body ask =
    made_formed tables meta session body ask (c.requests_are_made.ensures (role_schema tables meta (role_of session.role)) tables meta session body ask) c.parsed_is_due.ensures
    (λ document op vars. c.requests_are_built.ensures tables meta session document op vars)
