use Rattle.std.proofs.Common.{◌≡◌, map, drop, bytes_eq}
use Rattle.std.specs.Map.{lookup}
use Rattle.hq_base.specs.Json.{member_view}
use Rattle.hq_base.proofs.look.member_named.Given as goal

-- the member is among those that are left, if it is among them all
abbrev pub invariant-loop-member : goal.invariant-loop-member
invariant-loop-member l =
    lookup (λ n. bytes_eq n l.name) (map member_view (drop l.member-index l.members)) ≡ lookup (λ n. bytes_eq n l.name) (map member_view l.members)
