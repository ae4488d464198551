use Rattle.std.proofs.Common.{◌≡◌, map, take}
use Rattle.hq_schema.specs.Fixed.{fixed_name}
use Rattle.hq_copy.proofs.schema_names.names_of.Given as goal

-- the names so far
abbrev pub invariant-loop-fixed : goal.invariant-loop-fixed
invariant-loop-fixed l =
    l.names ≡ map fixed_name (take l.fixed-index l.all)
