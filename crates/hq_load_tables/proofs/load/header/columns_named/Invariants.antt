use Rattle.std.proofs.Common.{map, find, bytes_eq}
use Rattle.csv.specs.Records.{fields_of}
use Rattle.hq_load_tables.proofs.Headers.{Found}
use Rattle.hq_load_tables.proofs.load.header.columns_named.Given as goal

abbrev pub invariant-loop-at : goal.invariant-loop-at
invariant-loop-at l = Found (λ n. find (λ c. bytes_eq c.name n) l.columns) (fields_of l.header) l.at (map (λ c. c.now) l.found.items)
