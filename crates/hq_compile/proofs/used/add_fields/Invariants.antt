use Rattle.std.proofs.Common.{◌≡◌, ◌++◌, drop}
use Rattle.hq_translation.specs.Fields.{fields_used}
use Rattle.hq_compile.specs.Fields.{fields_view}
use Rattle.hq_compile.proofs.used.add_fields.Given as goal

abbrev pub invariant-loop-keyed : goal.invariant-loop-keyed
invariant-loop-keyed l = l.columns ++ fields_used (fields_view (drop l.keyed-index l.keyed-items)) ≡ l.initial.columns ++ fields_used (fields_view l.keyed-items)
