use Rattle.std.proofs.Common.{map}
use Rattle.csv.specs.Records.{fields_of}
use Rattle.hq_load_tables.proofs.Records.{FieldsRead}
use Rattle.hq_load_tables.proofs.load.record.read_fields.Given as goal

abbrev pub invariant-loop-at : goal.invariant-loop-at
invariant-loop-at l = FieldsRead l.line (map (λ c. c.now) l.columns) (fields_of l.fields) l.at l.values.items
