use Rattle.std.proofs.Common.{map}
use Rattle.hq_schema.specs.Schema.{schema_view, type_view}
use Rattle.hq_request_introspect.specs.Nodes.{schema_node}
use Rattle.hq_request_introspect.proofs.Selected.{one_more_member, keyed-fields}
use Rattle.hq_request_introspect.proofs.root.put_schema_object.Goals as goal

pub loop-at-preserved : goal.loop-at-preserved
loop-at-preserved c =
    let inside = rw c.deref-keyed-items.ensures.value at c.loop-at-test.true in
    let is = rw c.deref-keyed-items.ensures.value at c.keyed-item.is in
    one_more_member (schema_view c.args.schema.now) (schema_node (map (λ t. type_view t.now) c.args.types.now)) c.args.fields.now.items
    c.loop-at.at c.keyed-item.result _ _ _ c.loop-at.out c.put_comma.new.out c.put_quoted.new.out c.push-in-loop-at.new.self
    c.put_value_in_schema.new.out inside is
    (keyed-fields c.keyed-item.result) c.loop-at.invariant c.in_ok-put_comma.ensures c.in_ok-put_quoted.ensures c.in_ok-push-2.ensures.ok c.in_ok-put_value_in_schema.ensures
