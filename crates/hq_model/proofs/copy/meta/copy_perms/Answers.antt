use Rattle.hq_model.specs.Meta.{perm_view}
use Rattle.hq_model.proofs.Steps.{map_taken-more}
use Rattle.hq_model.proofs.copy.meta.copy_perms.Goals as goal

-- a permission is copied, and the loop goes on behind it
pub loop-perm-preserved : goal.loop-perm-preserved
loop-perm-preserved c =
    map_taken-more perm_view c.as_slice-perm-items.result.now c.loop-perm.perm-index c.perm-item.result c.loop-perm.copy c.push.new.self c.in_ok-copy_perm.field-0
    c.loop-perm.invariant c.loop-perm-test.true c.perm-item.is c.in_ok-copy_perm.ensures c.in_ok-push.ensures.ok
