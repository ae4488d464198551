use Rattle.std.proofs.Common.{◌≡◌, map, drop}
use Rattle.hq_base.specs.Json.{member_view, members_of}
use Rattle.hq_request_arguments.specs.Context.{context_view}
use Rattle.hq_request_arguments.specs.SortLists.{sorts_view, behind}
use Rattle.hq_request_arguments.specs.Sorts.{members_due}
use Rattle.hq_request_arguments.proofs.sorts.+entry.Given as goal

-- the sorts before and so far, and then those of the rest
abbrev pub invariant-with_members-loop-member : goal.invariant-with_members-loop-member
invariant-with_members-loop-member l =
    let c = context_view l.context in
    behind (sorts_view l.initial.sorts) (members_due (members_of (map member_view l.members.items)) c l.through l.p l.t)
    ≡ behind (sorts_view l.sorts) (members_due (members_of (map member_view (drop l.member-index l.member-items))) c l.through l.p l.t)
