use Rattle.std.proofs.Common.{◌≡◌, ◌∷◌, true, length, ap, rules, arith}
use Rattle.csv.specs.Records.{fields_of}
use Rattle.hq_load_tables.specs.Readers.{left_of}
use Rattle.hq_load_tables.proofs.Valid.{few_records}
use Rattle.hq_load_tables.proofs.load.records.count_records.Goals as goal

-- a file has few records
pub overflow_add-count : goal.overflow_add-count
overflow_add-count c =
    let yes : c.in_ok-next_record.field-0 ≡ true = search rules in
    let more : left_of c.records.reader ≡ fields_of c.next_record.new.fields ∷ left_of c.next_record.new.reader = rw yes at c.in_ok-next_record.ensures.read in
    let many = ap length more in
    let most = few_records c.args.bytes.now in
    omega (arith, many, most, c.records.invariant.all, c.requires)
