use Rattle.std.proofs.Common.{◌≡◌, ◌++◌, map, drop}
use Rattle.std.specs.List.{filter_map}
use Rattle.hq_base.specs.Json.{member_view, members_of, names_of}
use Rattle.hq_schema.specs.Schema.{arg_view}
use Rattle.hq_request_coerce.specs.Coercion.{default_member}
use Rattle.hq_request_coerce.proofs.values.add_defaults.Given as goal

-- the members so far, and then the defaults of what is left
abbrev pub invariant-loop-arg : goal.invariant-loop-arg
invariant-loop-arg l =
    let given = names_of (members_of (map member_view l.given)) in
    map member_view l.object.items ++ filter_map (default_member given) (map arg_view (drop l.arg-index l.inputs))
    ≡ map member_view l.initial.object.items ++ filter_map (default_member given) (map arg_view l.inputs)
