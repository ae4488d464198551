use Rattle.std.proofs.Common.{drop}
use Rattle.hq_translation.specs.Correct.{AreFew, AreFewParts}
use Rattle.hq_compile_tables.specs.Contexts.{context_schema}
use Rattle.hq_compile.specs.Fields.{fields_view, parts_view}
use Rattle.hq_compile.proofs.counts.+counts.Given as goal

-- all are few where those that are left are
abbrev pub invariant-count_fields-loop-keyed : goal.invariant-count_fields-loop-keyed
invariant-count_fields-loop-keyed l =
    AreFew (fields_view (drop l.keyed-index l.keyed-items)) (context_schema l.context) l.t → AreFew (fields_view l.keyed-items) (context_schema l.context) l.t

abbrev pub invariant-count_parts-loop-keyed : goal.invariant-count_parts-loop-keyed
invariant-count_parts-loop-keyed l =
    AreFewParts (parts_view (drop l.keyed-index l.keyed-items)) (context_schema l.context) l.u → AreFewParts (parts_view l.keyed-items) (context_schema l.context) l.u
