use Rattle.std.proofs.Common.{◌≡◌, map, take}
use Rattle.hq_schema.specs.Schema.{field_view}
use Rattle.hq_request_introspect.specs.Nodes.{field_node}
use Rattle.hq_request_introspect.specs.Views.{node_view}
use Rattle.hq_request_introspect.proofs.types.field_nodes.Given as goal

abbrev pub invariant-loop-field : goal.invariant-loop-field
invariant-loop-field l = map node_view l.nodes.items ≡ map field_node (map field_view (take l.field-index l.fields))
