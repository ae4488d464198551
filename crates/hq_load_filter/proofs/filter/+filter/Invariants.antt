use Rattle.std.proofs.Common.{◌≡◌, ◌++◌, map, drop}
use Rattle.hq_base.specs.Due.{mapped}
use Rattle.hq_base.specs.Json.{json_view, member_view, elements_of, members_of}
use Rattle.hq_model.specs.Bexp.{bexp_view}
use Rattle.hq_model.specs.Meta.{meta_view}
use Rattle.hq_load_filter.specs.Filter.{elements_due, members_due, where_due}
use Rattle.hq_load_filter.proofs.filter.+filter.Given as goal

-- the filters so far, and then those of the rest
abbrev pub invariant-element_bexps-loop-place : goal.invariant-element_bexps-loop-place
invariant-element_bexps-loop-place l =
    let tables = l.scope.catalog.now.tables in
    let d = meta_view l.scope.meta.now in
    elements_due (elements_of (map json_view l.elements.items)) tables d l.t l.path 0
    ≡ mapped (λ rest. map bexp_view l.bexps.items ++ rest) (elements_due (elements_of (map json_view (drop l.place l.elements.items))) tables d l.t l.path l.place)

-- the expressions so far, and then those of the rest
abbrev pub invariant-member_bexps-loop-member : goal.invariant-member_bexps-loop-member
invariant-member_bexps-loop-member l =
    let tables = l.scope.catalog.now.tables in
    let d = meta_view l.scope.meta.now in
    members_due (members_of (map member_view l.members.items)) tables d l.t l.path
    ≡ mapped (λ rest. map bexp_view l.bexps.items ++ rest) (members_due (members_of (map member_view (drop l.member-index l.member-items))) tables d l.t l.path)

-- what is left decides
abbrev pub invariant-where_bexp-loop-member : goal.invariant-where_bexp-loop-member
invariant-where_bexp-loop-member l =
    let tables = l.scope.catalog.now.tables in
    let d = meta_view l.scope.meta.now in
    where_due (members_of (map member_view l.members.items)) tables d l.t l.path
    ≡ where_due (members_of (map member_view (drop l.member-index l.member-items))) tables d l.t l.path
