use Rattle.hq_model.specs.Permission.{role_of}
use Rattle.hq_laws_confine.proofs.Own.Asks.{asks_confined}
use Rattle.hq_laws_confine.proofs.own_laws.session_statements_are_confined.Goals as goal

pub returns : goal.returns
returns c tables m session a =
    asks_confined tables m session a (c.requests_are_asked.ensures.tables tables m a) (λ t. c.permissions_fit.ensures tables m (role_of session.role) t) c.statements_are_confined.ensures
