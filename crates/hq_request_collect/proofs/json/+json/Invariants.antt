use Rattle.std.proofs.Common.{◌≡◌, map, drop}
use Rattle.hq_request_collect.specs.JsonNodes.{element_nodes, member_nodes}
use Rattle.hq_base.specs.Json.{json_view, member_view, elements_of, members_of}
use Rattle.hq_request_collect.specs.Size.{less}
use Rattle.hq_request_collect.proofs.json.+json.Given as goal

-- what may still come behind all is what may behind those that are left
abbrev pub invariant-without_elements-loop-element : goal.invariant-without_elements-loop-element
invariant-without_elements-loop-element l =
    less (element_nodes (elements_of (map json_view l.elements.items))) l.fn.left
    ≡ less (element_nodes (elements_of (map json_view (drop l.element-index l.element-items)))) l.left

abbrev pub invariant-without_members-loop-member : goal.invariant-without_members-loop-member
invariant-without_members-loop-member l =
    less (member_nodes (members_of (map member_view l.members.items))) l.fn.left
    ≡ less (member_nodes (members_of (map member_view (drop l.member-index l.member-items)))) l.left
