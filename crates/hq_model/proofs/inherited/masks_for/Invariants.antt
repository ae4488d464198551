use Rattle.std.proofs.Common.{◌≡◌, ◌++◌, drop, map}
use Rattle.hq_model.specs.Permission.{masks_for}
use Rattle.hq_model.specs.PermView.{mask_view, permission_view}
use Rattle.hq_model.proofs.inherited.masks_for.Given as goal

abbrev pub invariant-loop-col : goal.invariant-loop-col
invariant-loop-col l =
    map mask_view l.masks.items ++ masks_for (map permission_view l.views) (drop l.col-index l.col-items) ≡ masks_for (map permission_view l.views) l.cols
