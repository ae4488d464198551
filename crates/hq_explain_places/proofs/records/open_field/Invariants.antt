use Rattle.std.proofs.Common.{◌≡◌, length}
use Rattle.csv.specs.declared.parser.State.TheVariants as st
use Rattle.hq_explain_places.specs.Records.{open_field, state_of}
use Rattle.hq_explain_places.proofs.records.open_field.Given as goal

-- what is left shows the open field that all shows
abbrev pub invariant-bytes : goal.invariant-bytes
invariant-bytes l = open_field (state_of l.stand) l.field l.rest ≡ open_field st.StartRecord l.text l.text

abbrev pub decreases-bytes : goal.decreases-bytes
decreases-bytes l = length l.rest
