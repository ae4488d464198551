use Rattle.std.proofs.Common.{◌≡◌, length}
use Rattle.csv.specs.declared.parser.State.TheVariants as st
use Rattle.hq_explain_places.specs.Records.{behind_record, state_of}
use Rattle.hq_explain_places.proofs.records.behind_record.Given as goal

-- what is left ends where all does
abbrev pub invariant-bytes : goal.invariant-bytes
invariant-bytes l = behind_record (state_of l.stand) l.rest ≡ behind_record st.StartField l.text

abbrev pub decreases-bytes : goal.decreases-bytes
decreases-bytes l = length l.rest
