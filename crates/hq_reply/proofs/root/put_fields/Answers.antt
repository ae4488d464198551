use Rattle.hq_schema.specs.Schema.{schema_view}
use Rattle.hq_reply.proofs.Texts.{one_field}
use Rattle.hq_reply.specs.RootTexts.{texts_in}
use Rattle.hq_reply.proofs.root.put_fields.Goals as goal

pub loop-at-preserved : goal.loop-at-preserved
loop-at-preserved c =
    let inside = rw c.deref-keyed-items.ensures.value at c.loop-at-test.true in
    let is = rw c.deref-keyed-items.ensures.value at c.keyed-item.is in
    one_field (schema_view c.args.schema.now) c.args.fields.now.items c.loop-at.at c.keyed-item.result (texts_in c.loop-at.left)
    (texts_in c.put_field.new.left) c.loop-at.out c.put_comma.new.out c.put_field.new.out _ inside is
    c.loop-at.invariant c.in_ok-put_comma.ensures c.in_ok-put_field.ensures.text c.in_ok-put_field.ensures.left
