use Rattle.std.proofs.Common.{◌≡◌, drop, map}
use Rattle.hq_model.specs.PermView.{mask_view}
use Rattle.hq_schema_of_role.specs.Shown.{is_masked}
use Rattle.hq_schema_of_role.proofs.see.is_masked.Given as goal

abbrev pub invariant-loop-mask : goal.invariant-loop-mask
invariant-loop-mask l = is_masked (map mask_view (drop l.mask-index l.masks)) l.col ≡ is_masked (map mask_view l.masks) l.col
