use Rattle.hq_schema.specs.Schema.{schema_view}
use Rattle.hq_overlap_sets.specs.Sets.{arena_view}
use Rattle.hq_overlap_classes.specs.Noting.{AreDisputed}
use Rattle.hq_overlap_classes.proofs.disputes.Disputes.note_labels.Given as goal

-- what is noted so far
abbrev pub invariant-loop-entry : goal.invariant-loop-entry
invariant-loop-entry l = AreDisputed (schema_view l.arena.schema.now) (arena_view l.arena) l.self
