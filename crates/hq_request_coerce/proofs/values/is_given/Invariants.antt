use Rattle.std.proofs.Common.{◌≡◌, map, drop}
use Rattle.hq_base.specs.Json.{member_view, members_of, names_of}
use Rattle.hq_request_coerce.specs.Coercion.{is_given}
use Rattle.hq_request_coerce.proofs.values.is_given.Given as goal

-- the name is among those that are left, if it is among them all
abbrev pub invariant-loop-member : goal.invariant-loop-member
invariant-loop-member l =
    is_given (names_of (members_of (map member_view (drop l.member-index l.members)))) l.name
    ≡ is_given (names_of (members_of (map member_view l.members))) l.name
