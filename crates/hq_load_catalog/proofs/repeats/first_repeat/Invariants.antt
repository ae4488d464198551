use Rattle.std.proofs.Common.{◌≡◌, [], take, drop}
use Rattle.hq_load_catalog.specs.Repeats.{first_repeat}
use Rattle.hq_load_catalog.proofs.repeats.first_repeat.Given as goal

-- no name so far stands among those before it
abbrev pub invariant-loop-place : goal.invariant-loop-place
invariant-loop-place l = first_repeat (take l.place l.names) (drop l.place l.names) ≡ first_repeat [] l.names
