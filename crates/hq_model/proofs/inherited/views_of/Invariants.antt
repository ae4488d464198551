use Rattle.std.proofs.Common.{◌≡◌, ◌++◌, drop, map}
use Rattle.hq_model.specs.Meta.{tracked_view}
use Rattle.hq_model.specs.Permission.{permissions_of}
use Rattle.hq_model.specs.PermView.{permission_view}
use Rattle.hq_model.proofs.inherited.views_of.Given as goal

abbrev pub invariant-loop-name : goal.invariant-loop-name
invariant-loop-name l =
    map permission_view l.views.items ++ permissions_of (tracked_view l.tracked) (drop l.name-index l.name-items) ≡ permissions_of (tracked_view l.tracked) l.set
