use Rattle.std.proofs.Common.{◌≡◌, ◌++◌, drop}
use Rattle.hq_model.specs.Schema.{numbered}
use Rattle.hq_load_meta.proofs.permissions.all_columns.Given as goal

-- the places so far, and then those of the rest
abbrev pub invariant-loop-place : goal.invariant-loop-place
invariant-loop-place l =
    l.all ++ numbered (λ place c. place) l.place (drop l.place l.columns) ≡ numbered (λ place c. place) 0 l.columns
