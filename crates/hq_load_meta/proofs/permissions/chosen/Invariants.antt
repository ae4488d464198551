use Rattle.std.proofs.Common.{◌≡◌, ◌++◌, drop, filter}
use Rattle.hq_model.specs.Schema.{numbered}
use Rattle.hq_load_meta.specs.Linked.{is_among}
use Rattle.hq_load_meta.proofs.permissions.chosen.Given as goal

-- the columns so far, and then those of the rest
abbrev pub invariant-loop-place : goal.invariant-loop-place
invariant-loop-place l =
    l.cols ++ filter (λ c. is_among c l.listed) (numbered (λ place c. place) l.place (drop l.place l.columns)) ≡ filter (λ c. is_among c l.listed) (numbered (λ place c. place) 0 l.columns)
