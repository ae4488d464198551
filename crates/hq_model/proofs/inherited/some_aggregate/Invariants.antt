use Rattle.std.proofs.Common.{◌≡◌, drop, map}
use Rattle.hq_model.specs.Permission.{some_aggregate}
use Rattle.hq_model.specs.PermView.{permission_view}
use Rattle.hq_model.proofs.inherited.some_aggregate.Given as goal

abbrev pub invariant-loop-view : goal.invariant-loop-view
invariant-loop-view l = some_aggregate (map permission_view (drop l.view-index l.views)) ≡ some_aggregate (map permission_view l.views)
