use Rattle.std.proofs.Common.{◌≡◌, drop, map}
use Rattle.std.specs.List.{list_all}
use Rattle.hq_model.specs.Permission.{permits}
use Rattle.hq_model.specs.PermView.{permission_view}
use Rattle.hq_model.proofs.inherited.all_permit.Given as goal

abbrev pub invariant-loop-view : goal.invariant-loop-view
invariant-loop-view l = list_all (permits l.col) (map permission_view (drop l.view-index l.views)) ≡ list_all (permits l.col) (map permission_view l.views)
