use Rattle.hq_schema_roles.proofs.Differing.{schema_differs}
use Rattle.hq_schema_roles.proofs.laws.names_differ.Goals as goal

pub returns : goal.returns
returns c = schema_differs
