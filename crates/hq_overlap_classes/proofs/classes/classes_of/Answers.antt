-- What is to be joined at first.
use Rattle.std.proofs.Common.{rules}
use Rattle.hq_overlap_classes.proofs.classes.classes_of.Goals as goal

pub note_all-requires-clause-pending : goal.note_all-requires-clause-pending
note_all-requires-clause-pending c = search rules

pub join_all-requires-clause-pending : goal.join_all-requires-clause-pending
join_all-requires-clause-pending c = c.in_ok-note_all.ensures.pending
