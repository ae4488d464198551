use Rattle.hq_model.specs.Bexp.{bexp_view}
use Rattle.hq_model.proofs.Steps.{map_taken-more}
use Rattle.hq_model.proofs.copy.bexp.+copy_bexp.Goals as goal

-- an expression is copied, and the loop goes on behind it
pub copy_bexps-loop-bexp-preserved : goal.copy_bexps-loop-bexp-preserved
copy_bexps-loop-bexp-preserved t c =
    map_taken-more bexp_view c.deref-bexp-items.result.now c.loop-bexp.bexp-index c.bexp-item.result c.loop-bexp.copy.items c.push.new.self.items c.in_ok-copy_bexp.field-0
    c.loop-bexp.invariant c.loop-bexp-test.true c.bexp-item.is c.in_ok-copy_bexp.ensures c.in_ok-push.ensures.items
