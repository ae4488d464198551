use Rattle.hq_schema.specs.Schema.{schema_view}
use Rattle.hq_request_introspect.specs.Selections.{object_of}
use Rattle.hq_request_introspect.specs.Views.{node_view, fields_view}
use Rattle.hq_request_introspect.proofs.Selected.{one_more_member, one_more_object, keyed-fields}
use Rattle.hq_request_introspect.proofs.select.+select.Goals as goal

pub put_object-loop-at-preserved : goal.put_object-loop-at-preserved
put_object-loop-at-preserved t c =
    let inside = rw c.deref-keyed-items.ensures.value at c.loop-at-test.true in
    let is = rw c.deref-keyed-items.ensures.value at c.keyed-item.is in
    one_more_member (schema_view c.args.schema.now) (node_view c.args.node) c.args.fields.now.items c.loop-at.at c.keyed-item.result _ _ _
    c.loop-at.out c.put_comma.new.out c.put_quoted.new.out c.push-in-loop-at.new.self c.put_value.new.out inside is
    (keyed-fields c.keyed-item.result) c.loop-at.invariant c.in_ok-put_comma.ensures c.in_ok-put_quoted.ensures c.in_ok-push-2.ensures.ok c.in_ok-put_value.ensures

pub put_objects-loop-at-preserved : goal.put_objects-loop-at-preserved
put_objects-loop-at-preserved t c =
    one_more_object (object_of (fields_view c.args.fields.now.items) (schema_view c.args.schema.now)) node_view c.args.nodes.now
    c.loop-at.at c.index-nodes-at.result _ c.loop-at.out c.put_comma.new.out c.put_object.new.out c.loop-at-test.true c.index-nodes-at.is
    c.loop-at.invariant c.in_ok-put_comma.ensures c.in_ok-put_object.ensures
