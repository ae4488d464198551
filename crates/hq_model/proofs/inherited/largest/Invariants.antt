use Rattle.std.proofs.Common.{◌≡◌, drop, map}
use Rattle.hq_model.specs.Permission.{largest}
use Rattle.hq_model.specs.PermView.{permission_view}
use Rattle.hq_model.proofs.inherited.largest.Given as goal

abbrev pub invariant-loop-view : goal.invariant-loop-view
invariant-loop-view l = largest l.largest (map permission_view (drop l.view-index l.views)) ≡ largest l.fn.limit (map permission_view l.views)
