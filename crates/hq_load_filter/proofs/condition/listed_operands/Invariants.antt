use Rattle.std.proofs.Common.{◌≡◌, ◌++◌, map, drop}
use Rattle.hq_base.specs.Due.{mapped}
use Rattle.hq_base.specs.Json.{json_view}
use Rattle.hq_load_filter.specs.Each.{each_element}
use Rattle.hq_load_filter.specs.Operand.{operand_at}
use Rattle.hq_load_filter.proofs.condition.listed_operands.Given as goal

-- the operands so far, and then those of the rest
abbrev pub invariant-loop-place : goal.invariant-loop-place
invariant-loop-place l =
    each_element (operand_at l.test l.ty) l.path 0 (map json_view l.list)
    ≡ mapped (λ rest. l.operands ++ rest) (each_element (operand_at l.test l.ty) l.path l.place (map json_view (drop l.place l.list)))
