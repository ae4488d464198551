use Rattle.hq_model.specs.Permission.{role_of}
use Rattle.std.proofs.lemmas.Bool.{and_parts}
use Rattle.hq_laws_request.proofs.Formed.Building.{all_built}
use Rattle.hq_laws_request.proofs.form_laws.built.requests_are_built.Goals as goal

pub returns : goal.returns
returns c tables m session d op vars catalog fit shallow low a e =
    all_built tables m fit session vars low (c.leads_where_permitted.ensures tables m (role_of session.role) (and_parts _ _ (and_parts _ _ (and_parts _ _ fit).0).0).0)
    c.collected_apart.ensures (c.bound_for_sessions.ensures tables m session) d op shallow a e
