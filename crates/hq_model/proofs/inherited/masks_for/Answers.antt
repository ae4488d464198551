use Rattle.std.proofs.Common.{refl, map}
use Rattle.hq_model.specs.Permission.{mask_for, masks_for}
use Rattle.hq_model.specs.PermView.{mask_view, permission_view}
use Rattle.hq_model.proofs.Joining.{put_more}
use Rattle.hq_model.proofs.inherited.masks_for.Goals as goal

-- the mask of one more column
pub loop-col-preserved : goal.loop-col-preserved
loop-col-preserved c =
    let ps = map permission_view c.args.views.now in
    put_more (masks_for ps) (mask_for ps) (λ k ks. refl)
    c.as_slice-col-items.result.now c.loop-col.col-index c.col-item.result (map mask_view c.loop-col.masks.items) _ _ c.loop-col-test.true c.col-item.is c.loop-col.invariant c.in_ok-push_mask.ensures
