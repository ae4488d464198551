use Rattle.std.proofs.Common.{◌≡◌, drop, bytes_eq}
use Rattle.std.specs.List.{position_from}
use Rattle.csv.specs.Records.{fields_of}
use Rattle.hq_load_tables.proofs.load.header.place_of.Given as goal

abbrev pub invariant-loop-at : goal.invariant-loop-at
invariant-loop-at l = position_from (bytes_eq l.name) 0 (fields_of l.header) ≡ position_from (bytes_eq l.name) l.at (drop l.at (fields_of l.header))
