use Rattle.std.proofs.Common.{◌≡◌, ◌++◌, map, take}
use Rattle.hq_schema.specs.Parts.{part_suffix}
use Rattle.hq_copy.proofs.schema_names.push_parts.Given as goal

-- the names so far stand behind the others
abbrev pub invariant-loop-part : goal.invariant-loop-part
invariant-loop-part l =
    l.names ≡ l.fn.names ++ map (λ p. l.name ++ part_suffix p) (take l.part-index l.parts)
