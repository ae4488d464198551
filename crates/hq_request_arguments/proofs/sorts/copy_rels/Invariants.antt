use Rattle.std.proofs.Common.{◌≡◌, take}
use Rattle.hq_request_arguments.proofs.sorts.copy_rels.Given as goal

-- the relationships so far
abbrev pub invariant-loop-rel : goal.invariant-loop-rel
invariant-loop-rel l = l.copy ≡ take l.rel-index l.rels
