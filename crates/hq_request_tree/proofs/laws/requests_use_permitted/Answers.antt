use Rattle.std.proofs.Common.{length}
use Rattle.hq_model.specs.Schema.{schema_of}
use Rattle.hq_request_tree.specs.Allowed.{allowed_to, existing}
use Rattle.hq_request_tree.proofs.Fitting.{permitted_there}
use Rattle.hq_request_tree.proofs.Weaken.{uses_weaken}
use Rattle.hq_request_tree.proofs.laws.requests_use_permitted.Goals as goal

pub returns-clause-permitted : goal.returns-clause-permitted
returns-clause-permitted c tables m a h = h.uses

pub returns-clause-existing : goal.returns-clause-existing
returns-clause-existing c tables m a fit h =
    uses_weaken (schema_of tables m) (allowed_to a.role m (schema_of tables m)) (existing m (schema_of tables m))
    (permitted_there tables m fit a.role (c.permissions_fit.ensures tables m a.role)) a.fields (length tables) h.uses
