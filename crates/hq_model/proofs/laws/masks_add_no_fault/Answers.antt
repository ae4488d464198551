use Rattle.hq_model.proofs.Together.{permission_binds, permission_low}
use Rattle.hq_model.proofs.laws.masks_add_no_fault.Goals as goal

pub returns-clause-binds : goal.returns-clause-binds
returns-clause-binds c = permission_binds

pub returns-clause-low : goal.returns-clause-low
returns-clause-low c = permission_low
