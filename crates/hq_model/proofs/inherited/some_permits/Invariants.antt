use Rattle.std.proofs.Common.{◌≡◌, drop, map}
use Rattle.std.specs.List.{list_any}
use Rattle.hq_model.specs.Permission.{permits}
use Rattle.hq_model.specs.PermView.{permission_view}
use Rattle.hq_model.proofs.inherited.some_permits.Given as goal

abbrev pub invariant-loop-view : goal.invariant-loop-view
invariant-loop-view l = list_any (permits l.col) (map permission_view (drop l.view-index l.views)) ≡ list_any (permits l.col) (map permission_view l.views)
