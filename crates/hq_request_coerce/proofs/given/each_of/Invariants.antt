use Rattle.std.proofs.Common.{◌≡◌, ◌++◌, map, drop}
use Rattle.hq_base.specs.Json.{member_view}
use Rattle.hq_request_coerce.specs.Given.{given_seen}
use Rattle.hq_request_coerce.proofs.given.each_of.Given as goal

-- those so far, and then the rest
abbrev pub invariant-loop-member : goal.invariant-loop-member
invariant-loop-member l = map given_seen l.all.items ++ map member_view (drop l.member-index l.members) ≡ map member_view l.members
