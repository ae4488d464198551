-- A variable of a request, as its index holds it.
use Rattle.std.specs.Prelude.{ℕ, List}
use Rattle.hq_base.specs.Json.{JsonTree, member_view}
use Rattle.hq_request_coerce.specs.declared.given.GivenMember.{GivenMember}

-- its name and its value
abbrev pub given_seen : GivenMember → List ℕ × JsonTree
given_seen given = member_view given.member.now
