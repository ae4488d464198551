use Rattle.std.proofs.Common.{◌≡◌, [], drop, take}
use Rattle.hq_copy_definition.specs.Refusals.{repeated_after}
use Rattle.hq_copy.proofs.schema_names.check_repeats.Given as goal

-- no name so far stands among those before it
abbrev pub invariant-loop-at : goal.invariant-loop-at
invariant-loop-at l =
    repeated_after (take l.at l.names) (drop l.at l.names) ≡ repeated_after [] l.names
