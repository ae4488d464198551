use Rattle.hq_laws_isolation.proofs.Sessions.{views_decide}
use Rattle.hq_laws_isolation.proofs.Views.{fields_alike}
use Rattle.hq_laws_isolation.proofs.laws.resolves_alike.Goals as goal

pub returns-clause-fields : goal.returns-clause-fields
returns-clause-fields c = fields_alike

pub returns-clause-requests : goal.returns-clause-requests
returns-clause-requests c = views_decide
