use Rattle.hq_laws_copy.proofs.Schemas.Answers.{schema_renumbered}
use Rattle.hq_laws_copy.proofs.schema_laws.copied_schema_is_renumbered.Goals as goal

pub returns : goal.returns
returns c = schema_renumbered
