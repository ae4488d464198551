use Rattle.std.proofs.Common.{◌∙◌, ap, refl, map, ◌++◌}
use Rattle.hq_model.specs.Meta.{tracked_view}
use Rattle.hq_model.specs.Permission.{own_permission, option_list, permissions_of}
use Rattle.hq_model.specs.PermView.{permission_view}
use Rattle.hq_model.proofs.Joining.{put_more}
use Rattle.hq_model.proofs.inherited.views_of.Goals as goal

-- what one more role permits
pub loop-name-preserved : goal.loop-name-preserved
loop-name-preserved c =
    let k = tracked_view c.args.tracked.now in
    put_more (permissions_of k) (λ r. option_list (own_permission k r)) (λ r rs. refl)
    c.as_slice-name-items.result.now c.loop-name.name-index c.name-item.result (map permission_view c.loop-name.views.items) _ _ c.loop-name-test.true c.name-item.is c.loop-name.invariant
    (c.in_ok-push_view.ensures ∙ ap (λ o. map permission_view c.loop-name.views.items ++ option_list o) c.in_ok-own_view.ensures)
