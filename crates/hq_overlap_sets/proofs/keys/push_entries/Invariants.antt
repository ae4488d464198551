use Rattle.std.proofs.Common.{◌≡◌, ◌++◌, drop}
use Rattle.hq_overlap_sets.proofs.keys.push_entries.Given as goal

-- the fields so far, and those that are left, are all
abbrev pub invariant-loop-entry : goal.invariant-loop-entry
invariant-loop-entry l = l.entries.items ++ drop l.entry-index l.more ≡ l.initial.entries.items ++ l.more
