use Rattle.hq_schema.specs.Schema.{schema_view}
use Rattle.hq_overlap_sets.specs.Sets.{arena_view}
use Rattle.hq_overlap_classes.specs.Noting.{AreNoted, AreToJoin}
use Rattle.hq_overlap_classes.proofs.classes.Classes.note_sets.Given as goal

-- what is noted so far, and what is to be joined
abbrev pub invariant-loop-set : goal.invariant-loop-set
invariant-loop-set l = record {
  sound : AreNoted (schema_view l.arena.schema.now) (arena_view l.arena) l.self;
  pending : AreToJoin (arena_view l.arena) l.pending.items;
}
