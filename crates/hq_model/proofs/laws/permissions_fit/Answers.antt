use Rattle.hq_model.proofs.Permitting.{permission_fits}
use Rattle.hq_model.proofs.laws.permissions_fit.Goals as goal

pub returns : goal.returns
returns c = permission_fits
