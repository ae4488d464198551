use Rattle.std.proofs.Common.{◌≡◌, map, drop}
use Rattle.hq_base.specs.Json.{member_view}
use Rattle.hq_load_filter.specs.Asked.{parts_due}
use Rattle.hq_load_filter.proofs.asked.check_parts.Given as goal

-- what is left decides
abbrev pub invariant-loop-member : goal.invariant-loop-member
invariant-loop-member l = parts_due l.path (map member_view (drop l.member-index l.members)) ≡ parts_due l.path (map member_view l.members)
