use Rattle.hq_translation.proofs.Sound.{sound_of}
use Rattle.hq_model.specs.Schema.{schema_of}
use Rattle.hq_confine_rules.proofs.Permitted.{only_permitted}
use Rattle.hq_confine_rules.proofs.laws.scans_keep_permitted_rows.Goals as goal

pub returns : goal.returns
returns c = λ tables meta g d t alias condition is_catalog is_database bound stand scope row narrow shows k.
    only_permitted (schema_of tables meta) g tables d (sound_of tables meta d is_catalog is_database) t alias condition bound stand scope row narrow shows k
