use Rattle.std.proofs.Common.{take}
use Rattle.std.specs.List.{All}
use Rattle.hq_schema.specs.Schema.{schema_view}
use Rattle.hq_overlap_classes.specs.Disputes.{IsTrueOf, noted_in}
use Rattle.hq_overlap_sets.specs.Sets.{entry_view}
use Rattle.hq_overlap_classes.proofs.disputes.Disputes.fits_fields.Given as goal

-- what is noted is true of the fields so far
abbrev pub invariant-loop-entry : goal.invariant-loop-entry
invariant-loop-entry l = All (λ e. IsTrueOf (noted_in (schema_view l.schema) l.self) l.class (entry_view (schema_view l.schema) e)) (take l.entry-index l.entries)
