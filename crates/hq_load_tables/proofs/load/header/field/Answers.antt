use Rattle.hq_load_tables.proofs.Fields.{has_field, field_there}
use Rattle.csv.specs.Records.{fields_of}
use Rattle.hq_load_tables.proofs.load.header.field.Goals as goal

pub unwrap-requires : goal.unwrap-requires
unwrap-requires c = has_field c.get.result (fields_of c.args.fields.now) c.args.at c.get.ensures.value c.requires

pub returns : goal.returns
returns c = field_there c.get.result c.unwrap.result (fields_of c.args.fields.now) c.args.at c.get.ensures.value c.requires c.unwrap.ensures
