use Rattle.hq_model.specs.Meta.{tracked_view}
use Rattle.hq_model.proofs.Steps.{map_taken-more}
use Rattle.hq_model.proofs.copy.meta.copy_all_tracked.Goals as goal

-- an entry is copied, and the loop goes on behind it
pub loop-one-preserved : goal.loop-one-preserved
loop-one-preserved c =
    map_taken-more tracked_view c.as_slice-one-items.result.now c.loop-one.one-index c.one-item.result c.loop-one.copy c.push.new.self c.in_ok-copy_tracked.field-0
    c.loop-one.invariant c.loop-one-test.true c.one-item.is c.in_ok-copy_tracked.ensures c.in_ok-push.ensures.ok
