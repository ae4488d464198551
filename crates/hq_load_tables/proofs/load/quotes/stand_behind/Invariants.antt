use Rattle.std.proofs.Common.{◌≡◌, length}
use Rattle.csv.specs.declared.parser.State.TheVariants as st
use Rattle.hq_load_tables.specs.Unclosed.{state_behind, state_of}
use Rattle.hq_load_tables.proofs.load.quotes.stand_behind.Given as goal

-- behind what is left the reader stands where it stands behind all
abbrev pub invariant-bytes : goal.invariant-bytes
invariant-bytes l = state_behind (state_of l.stand) l.rest ≡ state_behind st.StartRecord l.bytes

abbrev pub decreases-bytes : goal.decreases-bytes
decreases-bytes l = length l.rest
