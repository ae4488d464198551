use Rattle.std.proofs.Common.{◌≡◌, length, map}
use Rattle.hq_schema.specs.Schema.{schema_view}
use Rattle.hq_overlap_classes.specs.Disputes.{IsKeptBelow, noted_in}
use Rattle.hq_overlap_sets.specs.Sets.{set_in, arena_view}
use Rattle.hq_overlap_classes.proofs.disputes.Disputes.kept_sets.Given as goal

-- the sets so far are kept
abbrev pub invariant-loop-number : goal.invariant-loop-number
invariant-loop-number l = record {
  as_long : length l.sets.items ≡ l.number;
  each : IsKeptBelow (noted_in (schema_view l.arena.schema.now) l.self) (arena_view l.arena) (map (set_in l.arena) l.sets.items) l.number;
}
