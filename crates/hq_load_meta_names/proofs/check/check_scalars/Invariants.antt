use Rattle.std.proofs.Common.{◌≡◌, drop, map}
use Rattle.hq_model.specs.Meta.{tracked_view}
use Rattle.hq_model.specs.Described.{scope_schema}
use Rattle.hq_load_meta_names.specs.Repeats.{scalars_due}
use Rattle.hq_load_meta_names.proofs.check.check_scalars.Given as goal

-- what is due of those that are left is due of all
abbrev pub invariant-loop-place : goal.invariant-loop-place
invariant-loop-place l =
    scalars_due (scope_schema l.scope) l.types l.path l.place (map tracked_view (drop l.place l.fn.tracked)) ≡ scalars_due (scope_schema l.scope) l.types l.path 0 (map tracked_view l.fn.tracked)
