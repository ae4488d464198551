use Rattle.std.proofs.Common.{ℕ, ◌<◌}
use Rattle.hq_schema.specs.Schema.{schema_view}
use Rattle.hq_overlap_classes.specs.Disputes.{IsTrueAt, noted_in}
use Rattle.hq_overlap_sets.specs.Sets.{arena_view}
use Rattle.hq_overlap_classes.proofs.disputes.Disputes.fits_sets.Given as goal

-- what is noted is true of the sets so far
abbrev pub invariant-loop-number : goal.invariant-loop-number
invariant-loop-number l = (s : ℕ) → s < l.number → IsTrueAt (noted_in (schema_view l.arena.schema.now) l.self) (arena_view l.arena) s
