use Rattle.std.proofs.Common.{◌≡◌, ◌++◌, map, drop}
use Rattle.hq_schema.specs.Schema.{type_view}
use Rattle.hq_schema_of_role.specs.Scalars.{scalar_type}
use Rattle.hq_schema_of_role.proofs.scalars.push_types.Given as goal

abbrev pub invariant-loop-name : goal.invariant-loop-name
invariant-loop-name l =
    map type_view l.types.items ++ map scalar_type (drop l.name-index l.scalars) ≡ map type_view l.initial.types.items ++ map scalar_type l.scalars
