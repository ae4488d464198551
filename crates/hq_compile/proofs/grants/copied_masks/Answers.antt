use Rattle.std.proofs.Common.{map, refl}
use Rattle.hq_model.specs.PermView.{mask_view}
use Rattle.hq_compile_tables.proofs.Loops.{viewed_rest-more}
use Rattle.hq_compile.proofs.grants.copied_masks.Goals as goal

pub loop-mask-preserved : goal.loop-mask-preserved
loop-mask-preserved c =
    viewed_rest-more mask_view (map mask_view) (map mask_view) c.args.masks.now c.loop-mask.mask-index c.mask-item.result c.loop-mask.copies.items c.push.new.self.items c.in_ok-copied_mask.field-0 _ _
    c.loop-mask.invariant c.loop-mask-test.true c.mask-item.is refl c.in_ok-copied_mask.ensures c.in_ok-push.ensures.items
