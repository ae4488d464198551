use Rattle.std.proofs.Common.{◌≡◌, drop}
use Rattle.hq_model.specs.Meta.{tracked_view}
use Rattle.hq_model_limits.specs.Limits.{limits_of, rows_of, together}
use Rattle.hq_model_limits.proofs.set.all_limit.Given as goal

-- the limit so far, together with that of the names that are left
abbrev pub invariant-loop-name : goal.invariant-loop-name
invariant-loop-name l = together (rows_of l.limit) (limits_of (tracked_view l.tracked) (drop l.name-index l.names)) ≡ limits_of (tracked_view l.tracked) l.names
