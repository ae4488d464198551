use Rattle.hq_request_tree.proofs.Granting.{grants_decide}
use Rattle.hq_request_tree.proofs.Touching.{touched_decide}
use Rattle.hq_request_tree.proofs.laws.touched_tables_decide.Goals as goal

pub returns-clause-fields : goal.returns-clause-fields
returns-clause-fields c = touched_decide

pub returns-clause-requests : goal.returns-clause-requests
returns-clause-requests c = grants_decide
