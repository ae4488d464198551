use Rattle.std.proofs.Common.{◌≡◌, ◌∙◌, ap, List, map, Err, inl, inr, rules}
use Rattle.std.specs.Prelude.{◌⊎◌}
use Rattle.std.proofs.lemmas.List.{map-append}
use Rattle.hq_model.specs.Binding.{bound_masks}
use Rattle.hq_model.specs.PermView.{mask_view}
use Rattle.hq_model.specs.Described.{scope_schema}
use Rattle.hq_model.specs.declared.bind.BindRefusal.{BindRefusal}
use Rattle.hq_model.specs.declared.bind.BindRefusal.TheVariants.{Memory}
use Rattle.hq_model.specs.declared.perm.Mask.{Mask}
use Rattle.hq_model.proofs.Steps.{read_more, read_refused}
use Rattle.hq_request_build.specs.Bound.{mask_due}
use Rattle.hq_request_build.proofs.Masks.{masks_read}
use Rattle.hq_copy.proofs.binding.bound_masks.Goals as goal

-- a mask is bound, and the loop goes on behind it
pub loop-mask-preserved : goal.loop-mask-preserved
loop-mask-preserved c =
    let s = scope_schema c.args.scope.now in
    let vars = c.args.session.now.vars in
    read_more (λ (ms : List Mask). bound_masks (map mask_view ms) s vars c.args.t) (λ m. mask_due (mask_view m) s vars c.args.t) (masks_read s vars c.args.t)
    c.args.masks.now c.loop-mask.mask-index c.mask-item.result _ _ (mask_view c.in_ok-one.one) _ c.loop-mask.invariant c.loop-mask-test.true c.mask-item.is c.in_ok-one.ensures
    (ap (map mask_view) c.in_ok-push.ensures.items ∙ map-append mask_view _ _)

-- a mask that does not bind is the refusal of them all
pub returns-in_err-one : goal.returns-in_err-one
returns-in_err-one c =
    let s = scope_schema c.args.scope.now in
    let vars = c.args.session.now.vars in
    let e : BindRefusal = c.in_err-one.field-0.0 in
    let refused : (e ≡ Memory) ⊎ (bound_masks (map mask_view c.args.masks.now) s vars c.args.t ≡ Err e) =
    elim c.in_err-one.ensures [
      | inl m ↦ inl m
      | inr given ↦ inr (read_refused (λ (ms : List Mask). bound_masks (map mask_view ms) s vars c.args.t) (λ m. mask_due (mask_view m) s vars c.args.t) (masks_read s vars c.args.t)
          c.args.masks.now c.loop-mask.mask-index c.mask-item.result _ e _ c.loop-mask.invariant c.loop-mask-test.true c.mask-item.is given)
    ] in
    search rules
