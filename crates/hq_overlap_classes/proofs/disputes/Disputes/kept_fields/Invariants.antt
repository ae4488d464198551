use Rattle.std.proofs.Common.{◌≡◌, ◌++◌, filter, drop}
use Rattle.hq_overlap_classes.specs.Disputes.{keeps_entry}
use Rattle.hq_overlap_classes.proofs.disputes.Disputes.kept_fields.Given as goal

-- the fields so far, and then what is kept of the rest
abbrev pub invariant-loop-entry : goal.invariant-loop-entry
invariant-loop-entry l = l.kept.items ++ filter (keeps_entry l.self l.class) (drop l.entry-index l.entries) ≡ filter (keeps_entry l.self l.class) l.entries
