use Rattle.std.proofs.Common.{◌≡◌, ◌++◌, drop}
use Rattle.hq_copy_definition.specs.Metadata.{places}
use Rattle.hq_copy_tables.proofs.metadata.first_columns.Given as goal

-- those so far, and then the others
abbrev pub invariant-loop-at : goal.invariant-loop-at
invariant-loop-at l =
    l.first ++ places l.at (drop l.at l.columns) ≡ places 0 l.columns
