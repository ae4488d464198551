use Rattle.std.proofs.Common.{◌≡◌, ◌+◌, drop}
use Rattle.std.specs.List.{position_from}
use Rattle.hq_copy_definition.specs.Links.{from_number}
use Rattle.hq_copy_filter.specs.Lent.{rows_of}
use Rattle.hq_model.specs.Seen.{linked_by}
use Rattle.hq_copy.proofs.numbers.from_number.Given as goal

-- none of the rows so far is linked
abbrev pub invariant-loop-at : goal.invariant-loop-at
invariant-loop-at l =
    position_from (linked_by l.pairs l.row) (l.at + 1) (rows_of (drop l.at l.remote)) ≡ from_number (linked_by l.pairs) (rows_of l.remote) l.row
