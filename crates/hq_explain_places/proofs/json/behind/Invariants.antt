use Rattle.std.proofs.Common.{◌≡◌, length}
use Rattle.hq_base.specs.Text.{after}
use Rattle.hq_explain_places.proofs.json.behind.Given as goal

-- what is left of the front stands at the rest as all of it does at the text
abbrev pub invariant-bytes : goal.invariant-bytes
invariant-bytes l = after l.left l.rest ≡ after l.front l.text

abbrev pub decreases-bytes : goal.decreases-bytes
decreases-bytes l = length l.left
