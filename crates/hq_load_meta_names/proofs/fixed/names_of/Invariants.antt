use Rattle.std.proofs.Common.{◌≡◌, map, take}
use Rattle.hq_schema.specs.Fixed.{fixed_name}
use Rattle.hq_load_meta_names.proofs.fixed.names_of.Given as goal

abbrev pub invariant-loop-fixed : goal.invariant-loop-fixed
invariant-loop-fixed l = l.names ≡ map fixed_name (take l.fixed-index l.all)
