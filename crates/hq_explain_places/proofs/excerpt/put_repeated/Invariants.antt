use Rattle.std.proofs.Common.{ℕ, ◌-◌, List, Option}
use Rattle.std.specs.Prelude.{replicate}
use Rattle.hq_explain_places.specs.Words.{Adds}
use Rattle.hq_explain_places.proofs.excerpt.put_repeated.Given as goal

-- the bytes that are still to be added complete all
abbrev pub invariant-times : goal.invariant-times
invariant-times l = (new : Option (List ℕ)) → Adds l.words new (replicate (l.count - l.done) l.byte) → Adds l.initial.words new (replicate l.count l.byte)
