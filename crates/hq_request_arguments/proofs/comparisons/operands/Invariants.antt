use Rattle.std.proofs.Common.{◌≡◌, ◌++◌, map, drop}
use Rattle.hq_base.specs.Due.{mapped}
use Rattle.hq_base.specs.Json.{json_view}
use Rattle.hq_request_arguments.specs.Operands.{operand_due}
use Rattle.hq_request_arguments.specs.Reading.{each}
use Rattle.hq_request_arguments.proofs.comparisons.operands.Given as goal

-- the operands so far, and then those of the rest
abbrev pub invariant-loop-json : goal.invariant-loop-json
invariant-loop-json l =
    each (operand_due l.test l.ty) (map json_view l.items)
    ≡ mapped (λ rest. l.operands ++ rest) (each (operand_due l.test l.ty) (map json_view (drop l.json-index l.items)))
