use Rattle.std.proofs.Common.{◌≡◌, drop}
use Rattle.hq_copy.specs.Files.{files_of}
use Rattle.hq_copy.proofs.files.check_files.Given as goal

-- none of the tables so far is refused
abbrev pub invariant-loop-at : goal.invariant-loop-at
invariant-loop-at l =
    files_of (drop l.at l.tables) (drop l.at l.rows) ≡ files_of l.tables l.rows
