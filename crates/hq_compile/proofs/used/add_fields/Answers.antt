use Rattle.std.proofs.Common.{List, refl}
use Rattle.hq_request_tree.specs.Fields.{keyed_field_view}
use Rattle.hq_request_tree.specs.declared.field.KeyedAskField.{KeyedAskField}
use Rattle.hq_translation.specs.Fields.{field_used, fields_used}
use Rattle.hq_compile_tables.proofs.Loops.{rest-more}
use Rattle.hq_compile.specs.Fields.{fields_view}
use Rattle.hq_compile.proofs.used.add_fields.Goals as goal

pub loop-keyed-preserved : goal.loop-keyed-preserved
loop-keyed-preserved c =
    let rest = λ (ks : List KeyedAskField). fields_used (fields_view ks) in
    let keyed = c.keyed-item.result in
    rest-more rest rest c.deref-keyed-items.result.now c.loop-keyed.keyed-index keyed c.loop-keyed.columns c.add_keyed.new.columns
    (field_used (keyed_field_view keyed).1) _ c.loop-keyed.invariant c.loop-keyed-test.true c.keyed-item.is refl c.in_ok-add_keyed.ensures
