use Rattle.std.proofs.Common.{◌∙◌, ap, sym}
use Rattle.hq_model.specs.SessionLists.{element_value}
use Rattle.hq_model_binding.proofs.ListsRead.{values_end, values_more, values_all}
use Rattle.hq_model_binding.proofs.session_list.element_values.Goals as goal

-- an element that is no value
pub returns-in_default : goal.returns-in_default
returns-in_default c =
    values_end c.args.test c.args.ty c.as_slice-element-items.result.now c.loop-element.element-index c.element-item.result
    c.loop-element.values _ c.loop-element-test.true c.element-item.is c.loop-element.invariant
    (ap (element_value c.args.test c.args.ty) (sym c.as_slice.ensures) ∙ sym c.in_ok-value.ensures ∙ c.in_default.is)

-- one more value
pub loop-element-preserved : goal.loop-element-preserved
loop-element-preserved c =
    values_more c.args.test c.args.ty c.as_slice-element-items.result.now c.loop-element.element-index c.element-item.result
    c.loop-element.values _ c.loop-element-test.true c.element-item.is c.loop-element.invariant
    c.in-Some.value c.push.new.self (ap (element_value c.args.test c.args.ty) (sym c.as_slice.ensures) ∙ sym c.in_ok-value.ensures ∙ c.in-Some.is) c.in_ok-push.ensures.ok

-- all values
pub returns : goal.returns
returns c = values_all c.args.test c.args.ty c.as_slice-element-items.result.now c.loop-element.element-index c.loop-element.values _ c.loop-element-test.false c.loop-element.invariant
