use Rattle.std.proofs.Common.{◌≡◌, drop}
use Rattle.hq_copy_definition.specs.Links.{first_from}
use Rattle.hq_copy_filter.specs.Lent.{rows_of}
use Rattle.hq_model.specs.Seen.{linked_by}
use Rattle.hq_copy.proofs.numbers.to_number.Given as goal

-- none of the rows so far is linked
abbrev pub invariant-loop-row : goal.invariant-loop-row
invariant-loop-row l =
    first_from (linked_by l.pairs) (rows_of (drop l.row-index l.own)) (rows_of l.remote) l.far ≡ first_from (linked_by l.pairs) (rows_of l.own) (rows_of l.remote) l.far
