use Rattle.std.proofs.Common.{◌≡◌, ◌++◌, map, drop, option_map}
use Rattle.hq_gql_tree.specs.Values.{placed_view, argument_view, elements_of, members_of}
use Rattle.hq_schema.specs.Schema.{schema_view}
use Rattle.hq_gql_nodes.specs.Known.{place_view}
use Rattle.hq_gql_nodes.specs.Nodes.{node_view, elements_nodes, members_nodes}
use Rattle.hq_gql_nodes.proofs.values.+values.Given as goal

-- the nodes so far, and then those of the elements that are left, are all
abbrev pub invariant-add_elements-loop-element : goal.invariant-add_elements-loop-element
invariant-add_elements-loop-element l =
    map node_view l.nodes.items ++ elements_nodes (schema_view l.schema) (option_map place_view l.place) (elements_of (map placed_view (drop l.element-index l.element-items)))
    ≡ map node_view l.initial.nodes.items ++ elements_nodes (schema_view l.schema) (option_map place_view l.place) (elements_of (map placed_view l.element-items))

-- and likewise of members
abbrev pub invariant-add_members-loop-member : goal.invariant-add_members-loop-member
invariant-add_members-loop-member l =
    map node_view l.nodes.items ++ members_nodes (schema_view l.schema) l.input (members_of (map argument_view (drop l.member-index l.member-items)))
    ≡ map node_view l.initial.nodes.items ++ members_nodes (schema_view l.schema) l.input (members_of (map argument_view l.member-items))
