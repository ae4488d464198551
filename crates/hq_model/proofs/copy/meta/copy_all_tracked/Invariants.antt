use Rattle.std.proofs.Common.{◌≡◌, map, take}
use Rattle.hq_model.specs.Meta.{tracked_view}
use Rattle.hq_model.proofs.copy.meta.copy_all_tracked.Given as goal

abbrev pub invariant-loop-one : goal.invariant-loop-one
invariant-loop-one l = map tracked_view l.copy ≡ map tracked_view (take l.one-index l.one-items)
