use Rattle.std.proofs.Common.{◌≡◌, ◌≤◌, length, map, drop}
use Rattle.hq_gql_tree.specs.Values.{placed_view, argument_view, elements_of, members_of}
use Rattle.hq_overlap_sets.specs.Literals.{bare_elements, bare_members, same_elements, same_members}
use Rattle.hq_overlap_sets.proofs.values.+same_value.Given as goal

-- what is left decides
abbrev pub invariant-same_elements-loop-at : goal.invariant-same_elements-loop-at
invariant-same_elements-loop-at l = record {
  within : l.at ≤ length l.left.items;
  same :
      same_elements (bare_elements (elements_of (map placed_view (drop l.at l.left.items)))) (bare_elements (elements_of (map placed_view (drop l.at l.right.items))))
      ≡ same_elements (bare_elements (elements_of (map placed_view l.left.items))) (bare_elements (elements_of (map placed_view l.right.items)));
}

abbrev pub invariant-same_members-loop-at : goal.invariant-same_members-loop-at
invariant-same_members-loop-at l = record {
  within : l.at ≤ length l.left.items;
  same :
      same_members (bare_members (members_of (map argument_view (drop l.at l.left.items)))) (bare_members (members_of (map argument_view (drop l.at l.right.items))))
      ≡ same_members (bare_members (members_of (map argument_view l.left.items))) (bare_members (members_of (map argument_view l.right.items)));
}
