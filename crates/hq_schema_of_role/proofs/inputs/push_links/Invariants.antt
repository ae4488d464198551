use Rattle.std.proofs.Common.{◌≡◌, ◌++◌, map, drop}
use Rattle.std.specs.List.{filter_map}
use Rattle.hq_schema.specs.Schema.{arg_view}
use Rattle.hq_schema_of_role.specs.Inputs.{link_input}
use Rattle.hq_schema_of_role.proofs.inputs.push_links.Given as goal

abbrev pub invariant-loop-link : goal.invariant-loop-link
invariant-loop-link l =
    map arg_view l.inputs.items ++ filter_map (link_input l.p) (drop l.link-index l.link-items)
    ≡ map arg_view l.initial.inputs.items ++ filter_map (link_input l.p) l.link-items
