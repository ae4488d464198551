use Rattle.hq_translation.specs.Asked.{table_request}
use Rattle.hq_translation.proofs.Asked.{well_asked}
use Rattle.hq_translation.proofs.TableRequests.{tables_asked}
use Rattle.hq_translation.proofs.requests.requests_are_asked.Goals as goal

pub returns-clause-tables : goal.returns-clause-tables
returns-clause-tables c = tables_asked

pub returns-clause-well_formed : goal.returns-clause-well_formed
returns-clause-well_formed c tables m a = well_asked tables m a (c.requests_use_permitted.ensures.existing tables m (table_request a))
