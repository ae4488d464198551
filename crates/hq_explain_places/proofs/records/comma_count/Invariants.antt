use Rattle.std.proofs.Common.{◌≡◌, ◌≤◌, ◌+◌, length}
use Rattle.csv.specs.declared.parser.State.TheVariants as st
use Rattle.hq_explain_places.specs.Records.{comma_count, state_of}
use Rattle.hq_explain_places.proofs.records.comma_count.Given as goal

-- the commas that were counted and those of what is left are all; no more were counted than bytes were read
abbrev pub invariant-bytes : goal.invariant-bytes
invariant-bytes l = record { all : l.count + comma_count (state_of l.stand) l.rest ≡ comma_count st.StartField l.text; few : l.count + length l.rest ≤ length l.text }

abbrev pub decreases-bytes : goal.decreases-bytes
decreases-bytes l = length l.rest
