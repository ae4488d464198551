use Rattle.std.proofs.Common.{◌≡◌, ◌++◌, drop, map}
use Rattle.std.specs.Prelude.{option_map}
use Rattle.hq_model.specs.SessionLists.{element_values}
use Rattle.hq_model.specs.declared.bexp.Operand.TheVariants.{Const}
use Rattle.hq_model_binding.proofs.session_list.element_values.Given as goal

-- the values so far stand before those of the rest
abbrev pub invariant-loop-element : goal.invariant-loop-element
invariant-loop-element l =
    option_map (λ vs. l.values ++ map Const vs) (element_values l.test l.ty (drop l.element-index l.element-items)) ≡ option_map (map Const) (element_values l.test l.ty l.elements)
