use Rattle.std.proofs.Common.{◌≡◌, ◌+◌, length}
use Rattle.csv.specs.Reading.{default_config, records, strip_bom}
use Rattle.hq_load_tables.specs.Readers.{IsReading, left_of}
use Rattle.hq_load_tables.proofs.load.records.count_records.Given as goal

-- the records so far and those that are left are all
abbrev pub invariant-records : goal.invariant-records
invariant-records l = record {
  reading : IsReading l.reader;
  all : l.count + length (left_of l.reader) ≡ length (records default_config (strip_bom l.bytes));
}

abbrev pub decreases-records : goal.decreases-records
decreases-records l = length (left_of l.reader)
