use Rattle.hq_laws_renumbered.proofs.Schemas.Answers.{schema_same}
use Rattle.hq_laws_renumbered.proofs.schema_laws.numbers_change_origins_alone.Goals as goal

pub returns : goal.returns
returns c = schema_same
