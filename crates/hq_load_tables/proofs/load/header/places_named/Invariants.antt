use Rattle.std.proofs.Common.{bytes_eq}
use Rattle.std.specs.List.{position_from}
use Rattle.csv.specs.Records.{fields_of}
use Rattle.hq_load_tables.proofs.Headers.{Found}
use Rattle.hq_load_tables.proofs.load.header.places_named.Given as goal

abbrev pub invariant-loop-column : goal.invariant-loop-column
invariant-loop-column l = Found (λ c. position_from (bytes_eq c.name) 0 (fields_of l.header)) l.columns l.column-index l.places.items
