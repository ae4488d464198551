use Rattle.std.proofs.Common.{◌≡◌, ℕ, Bool, ◌==◌, drop}
use Rattle.std.specs.List.{list_any}
use Rattle.hq_model.specs.Permission.{named_from}
use Rattle.hq_model_limits.proofs.named.has_named_of.Given as goal

abbrev pub invariant-loop-at : goal.invariant-loop-at
invariant-loop-at l = let among : ℕ → Bool = λ c. list_any (λ d. d == c) l.cols in list_any among (named_from l.at (drop l.at l.names)) ≡ list_any among (named_from 0 l.names)
