use Rattle.std.proofs.Common.{◌≡◌, ◌++◌, drop, map}
use Rattle.hq_model.specs.Bexp.{bexp_view}
use Rattle.hq_model.specs.Permission.{filters_of}
use Rattle.hq_model.specs.PermView.{permission_view}
use Rattle.hq_model.proofs.inherited.filters_of.Given as goal

abbrev pub invariant-loop-view : goal.invariant-loop-view
invariant-loop-view l =
    map bexp_view l.filters.items ++ filters_of (map permission_view (drop l.view-index l.views)) ≡ filters_of (map permission_view l.views)
