use Rattle.std.proofs.Common.{◌≡◌, map, drop}
use Rattle.std.specs.List.{list_any}
use Rattle.hq_base.specs.Json.{member_view, members_of, names_of}
use Rattle.hq_schema.specs.Schema.{arg_view}
use Rattle.hq_request_coerce.specs.Coercion.{is_lacking}
use Rattle.hq_request_coerce.proofs.values.lacks_some.Given as goal

-- one that is left is lacking, if one of all is
abbrev pub invariant-loop-arg : goal.invariant-loop-arg
invariant-loop-arg l =
    let given = names_of (members_of (map member_view l.members)) in
    list_any (is_lacking given) (map arg_view (drop l.arg-index l.inputs)) ≡ list_any (is_lacking given) (map arg_view l.inputs)
