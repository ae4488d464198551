use Rattle.std.proofs.Common.{◌≡◌, ◌++◌, map, take}
use Rattle.hq_load_meta_names.specs.Types.{part_name}
use Rattle.hq_load_meta_names.proofs.types.push_parts.Given as goal

abbrev pub invariant-loop-part : goal.invariant-loop-part
invariant-loop-part l = l.all ≡ l.fn.names ++ map (part_name l.name) (take l.part-index l.parts)
