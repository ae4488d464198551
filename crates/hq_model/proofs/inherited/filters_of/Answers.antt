use Rattle.std.proofs.Common.{◌∙◌, ap, refl, List, [], ◌∷◌, map, ◌++◌}
use Rattle.std.proofs.lemmas.List.{map-append}
use Rattle.hq_model.specs.Bexp.{bexp_view}
use Rattle.hq_model.specs.Permission.{filters_of}
use Rattle.hq_model.specs.PermView.{permission_view}
use Rattle.hq_model.specs.declared.perm.PermView.{PermView}
use Rattle.hq_model.proofs.Joining.{put_more}
use Rattle.hq_model.proofs.inherited.filters_of.Goals as goal

-- one more filter
pub loop-view-preserved : goal.loop-view-preserved
loop-view-preserved c =
    put_more (λ (vs : List PermView). filters_of (map permission_view vs)) (λ (v : PermView). bexp_view v.filter ∷ []) (λ v vs. refl)
    c.args.views.now c.loop-view.view-index c.view-item.result (map bexp_view c.loop-view.filters.items) _ _ c.loop-view-test.true c.view-item.is c.loop-view.invariant
    (ap (map bexp_view) c.in_ok-push.ensures.items ∙ map-append bexp_view _ _ ∙ ap (λ b. map bexp_view c.loop-view.filters.items ++ b ∷ []) c.in_ok-copy.ensures)
