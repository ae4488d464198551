use Rattle.std.proofs.Common.{◌≡◌, take}
use Rattle.hq_load_meta.specs.Linked.{pairs_of}
use Rattle.hq_load_meta.proofs.linking.pairs_of.Given as goal

-- the pairs so far
abbrev pub invariant-loop-place : goal.invariant-loop-place
invariant-loop-place l =
    l.pairs ≡ pairs_of (take l.place l.own) l.remote
