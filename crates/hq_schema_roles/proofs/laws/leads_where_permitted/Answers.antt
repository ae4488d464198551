use Rattle.hq_schema_roles.proofs.Fitting.{schema_fits}
use Rattle.hq_schema_roles.proofs.laws.leads_where_permitted.Goals as goal

pub returns : goal.returns
returns c = schema_fits
