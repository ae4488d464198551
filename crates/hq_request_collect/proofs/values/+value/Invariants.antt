use Rattle.std.proofs.Common.{◌≡◌, map, drop}
use Rattle.hq_request_collect.specs.ValueNodes.{element_nodes, member_nodes}
use Rattle.hq_request_coerce.specs.Variables.{var_view}
use Rattle.hq_request_collect.specs.Size.{less}
use Rattle.hq_gql_tree.specs.Values.{placed_view, argument_view, elements_of, members_of}
use Rattle.hq_request_collect.proofs.values.+value.Given as goal

-- what may still come behind all is what may behind those that are left
abbrev pub invariant-without_elements-loop-placed : goal.invariant-without_elements-loop-placed
invariant-without_elements-loop-placed l =
    let vars = map var_view l.vars in
    less (element_nodes vars (elements_of (map placed_view l.values.items))) l.fn.left
    ≡ less (element_nodes vars (elements_of (map placed_view (drop l.placed-index l.placed-items)))) l.left

abbrev pub invariant-without_members-loop-member : goal.invariant-without_members-loop-member
invariant-without_members-loop-member l =
    let vars = map var_view l.vars in
    less (member_nodes vars (members_of (map argument_view l.members.items))) l.fn.left
    ≡ less (member_nodes vars (members_of (map argument_view (drop l.member-index l.member-items)))) l.left
