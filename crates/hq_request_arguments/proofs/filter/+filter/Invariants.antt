use Rattle.std.proofs.Common.{◌≡◌, ◌++◌, map, drop}
use Rattle.hq_base.specs.Due.{mapped}
use Rattle.hq_base.specs.Json.{json_view, member_view, elements_of, members_of}
use Rattle.hq_model.specs.Bexp.{bexp_view}
use Rattle.hq_request_arguments.specs.Context.{context_view}
use Rattle.hq_request_arguments.specs.Where.{elements_due, members_due}
use Rattle.hq_request_arguments.proofs.filter.+filter.Given as goal

-- the filters so far, and then those of the rest
abbrev pub invariant-element_filters-loop-json : goal.invariant-element_filters-loop-json
invariant-element_filters-loop-json l =
    let c = context_view l.context in
    elements_due (elements_of (map json_view l.elements.items)) c l.p l.t
    ≡ mapped (λ rest. map bexp_view l.bexps.items ++ rest) (elements_due (elements_of (map json_view (drop l.json-index l.json-items))) c l.p l.t)

-- the expressions so far, and then those of the rest
abbrev pub invariant-member_filters-loop-member : goal.invariant-member_filters-loop-member
invariant-member_filters-loop-member l =
    let c = context_view l.context in
    members_due (members_of (map member_view l.members.items)) c l.p l.t
    ≡ mapped (λ rest. map bexp_view l.bexps.items ++ rest) (members_due (members_of (map member_view (drop l.member-index l.member-items))) c l.p l.t)
