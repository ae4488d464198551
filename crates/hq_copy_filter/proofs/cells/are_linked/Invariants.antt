use Rattle.std.proofs.Common.{◌≡◌, drop}
use Rattle.hq_model.specs.Seen.{linked_by}
use Rattle.hq_copy_filter.proofs.cells.are_linked.Given as goal

-- the pairs so far are equal, and those that are left decide
abbrev pub invariant-loop-pair : goal.invariant-loop-pair
invariant-loop-pair l = linked_by (drop l.pair-index l.pairs) l.row l.far ≡ linked_by l.pairs l.row l.far
