use Rattle.std.proofs.Common.{◌≡◌, ◌≤◌, ◌+◌, length}
use Rattle.hq_explain_places.specs.Nodes.{behind_value}
use Rattle.hq_explain_places.specs.declared.quoted.Quoted.TheVariants as quoted
use Rattle.hq_explain_places.proofs.json.behind_value.Given as goal

-- what is left ends where all does; no more brackets are open than bytes were read
abbrev pub invariant-bytes : goal.invariant-bytes
invariant-bytes l = record { all : behind_value l.quoted l.open_count l.rest ≡ behind_value quoted.Outside 0 l.text; few : l.open_count + length l.rest ≤ length l.text }

abbrev pub decreases-bytes : goal.decreases-bytes
decreases-bytes l = length l.rest
