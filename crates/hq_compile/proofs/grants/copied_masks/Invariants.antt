use Rattle.std.proofs.Common.{◌≡◌, ◌++◌, drop, map}
use Rattle.hq_model.specs.PermView.{mask_view}
use Rattle.hq_compile.proofs.grants.copied_masks.Given as goal

-- the copies so far, and the masks that are left
abbrev pub invariant-loop-mask : goal.invariant-loop-mask
invariant-loop-mask l = map mask_view l.copies.items ++ map mask_view (drop l.mask-index l.masks) ≡ map mask_view l.masks
