use Rattle.std.proofs.Common.{◌≡◌, ◌++◌, map, drop}
use Rattle.hq_base.specs.Json.{json_view, member_view}
use Rattle.hq_gql_tree.specs.Values.{placed_view, argument_view, elements_of, members_of}
use Rattle.hq_request_coerce.specs.Variables.{var_view}
use Rattle.hq_request_coerce.specs.Sources.{element_sources, member_sources}
use Rattle.hq_request_coerce.proofs.sources.+source.Given as goal

-- the elements so far, and then those of the rest
abbrev pub invariant-element_sources-loop-placed : goal.invariant-element_sources-loop-placed
invariant-element_sources-loop-placed l =
    let vars = map var_view l.vars in
    map json_view l.elements.items ++ element_sources vars (elements_of (map placed_view (drop l.placed-index l.placed-items)))
    ≡ element_sources vars (elements_of (map placed_view l.values.items))

abbrev pub invariant-member_sources-loop-argument : goal.invariant-member_sources-loop-argument
invariant-member_sources-loop-argument l =
    let vars = map var_view l.vars in
    map member_view l.members.items ++ member_sources vars (members_of (map argument_view (drop l.argument-index l.argument-items)))
    ≡ member_sources vars (members_of (map argument_view l.arguments.items))
