use Rattle.std.proofs.Common.{◌≡◌, map, take}
use Rattle.hq_schema.specs.Schema.{type_view}
use Rattle.hq_schema_of_role.specs.FixedTypes.{fixed_type}
use Rattle.hq_schema_of_role.proofs.fixed_types.types_of.Given as goal

abbrev pub invariant-loop-of : goal.invariant-loop-of
invariant-loop-of l = map type_view l.types.items ≡ map (fixed_type l.tables) (take l.of-index l.all)
