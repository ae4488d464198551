use Rattle.std.proofs.Common.{◌≡◌, ◌++◌, drop, map}
use Rattle.hq_base.specs.Due.{mapped}
use Rattle.hq_model.specs.Binding.{bound_masks}
use Rattle.hq_model.specs.PermView.{mask_view}
use Rattle.hq_model.specs.Described.{scope_schema}
use Rattle.hq_copy.proofs.binding.bound_masks.Given as goal

-- the masks so far, and then those that are left
abbrev pub invariant-loop-mask : goal.invariant-loop-mask
invariant-loop-mask l =
    let s = scope_schema l.scope in
    bound_masks (map mask_view l.masks) s l.session.vars l.t
    ≡ mapped (λ xs. map mask_view l.bound.items ++ xs) (bound_masks (map mask_view (drop l.mask-index l.masks)) s l.session.vars l.t)
