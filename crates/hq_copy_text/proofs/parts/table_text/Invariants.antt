use Rattle.std.proofs.Common.{◌≡◌, drop}
use Rattle.hq_copy_text.specs.Parts.{table_text}
use Rattle.hq_copy_text.proofs.parts.table_text.Given as goal

-- none of the tables so far has the name
abbrev pub invariant-loop-at : goal.invariant-loop-at
invariant-loop-at l =
    table_text (drop l.at l.tables) (drop l.at l.copy.rows) l.name ≡ table_text l.tables l.copy.rows l.name
