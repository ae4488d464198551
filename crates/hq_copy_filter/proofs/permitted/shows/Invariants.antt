use Rattle.std.proofs.Common.{◌≡◌, map, drop}
use Rattle.hq_model.specs.Permitted.{mask_of}
use Rattle.hq_model.specs.PermView.{mask_view}
use Rattle.hq_copy_filter.proofs.permitted.shows.Given as goal

-- the column has none of the masks so far
abbrev pub invariant-loop-mask : goal.invariant-loop-mask
invariant-loop-mask l = mask_of (map mask_view (drop l.mask-index l.masks)) l.column ≡ mask_of (map mask_view l.masks) l.column
