use Rattle.std.proofs.Common.{◌≡◌, true, drop}
use Rattle.std.specs.List.{list_any}
use Rattle.hq_model.specs.Permission.{named_from, named_columns}
use Rattle.hq_model.specs.Meta.{tracked_view}
use Rattle.hq_model_limits.proofs.named.has_named.Given as goal

abbrev pub invariant-loop-name : goal.invariant-loop-name
invariant-loop-name l = list_any (λ c. true) (named_from l.name-index (drop l.name-index l.name-items)) ≡ list_any (λ c. true) (named_columns (tracked_view l.tracked))
