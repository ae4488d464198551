use Rattle.hq_model.proofs.Steps.{taken_more}
use Rattle.hq_model.proofs.copy.copy_list.Goals as goal

-- an item is copied, and the loop goes on behind it
pub loop-item-preserved : goal.loop-item-preserved
loop-item-preserved g c =
    taken_more c.as_slice-item-items.result.now c.loop-item.item-index c.item-item.result c.loop-item.copy c.push.new.self c.in_ok-try_copy.field-0
    c.loop-item.invariant c.loop-item-test.true c.item-item.is c.in_ok-try_copy.ensures c.in_ok-push.ensures.ok
