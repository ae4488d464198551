use Rattle.std.proofs.Common.{refl, List, map}
use Rattle.hq_base.specs.Json.{json_view}
use Rattle.hq_base.specs.declared.json.Json.{Json}
use Rattle.hq_base.proofs.Refusals.{passed_up}
use Rattle.hq_request_arguments.specs.Operands.{operand_due}
use Rattle.hq_request_arguments.specs.Reading.{each}
use Rattle.hq_request_arguments.specs.declared.refusal.ArgRefusal.{ArgRefusal}
use Rattle.hq_request_arguments.specs.declared.refusal.ArgRefusal.TheVariants.{Memory}
use Rattle.hq_model.proofs.Steps.{read_more, read_refused, read_all}
use Rattle.hq_request_arguments.proofs.comparisons.operands.Goals as goal

pub loop-json-preserved : goal.loop-json-preserved
loop-json-preserved c =
    let due = operand_due c.args.test c.args.ty in
    read_more (λ (js : List Json). each due (map json_view js)) (λ (j : Json). due (json_view j)) (λ j js. refl)
    c.args.items.now c.loop-json.json-index c.json-item.result _ _ c.in_ok-operand.field-0 _ c.loop-json.invariant c.loop-json-test.true c.json-item.is c.in_ok-operand.ensures c.in_ok-push.ensures.ok

pub returns-in_err-operand : goal.returns-in_err-operand
returns-in_err-operand c =
    let due = operand_due c.args.test c.args.ty in
    let e : ArgRefusal = c.in_err-operand.field-0.0 in
    passed_up (λ os. os) Memory e _ _ c.from_residual.result
    (read_refused (λ (js : List Json). each due (map json_view js)) (λ (j : Json). due (json_view j)) (λ j js. refl)
    c.args.items.now c.loop-json.json-index c.json-item.result c.loop-json.operands e _ c.loop-json.invariant c.loop-json-test.true c.json-item.is)
    c.in_err-operand.ensures c.from_residual.ensures.1

pub returns : goal.returns
returns c =
    read_all (λ (js : List Json). each (operand_due c.args.test c.args.ty) (map json_view js)) c.args.items.now c.loop-json.json-index
    c.loop-json.operands _ c.loop-json.invariant c.loop-json-test.false refl
