use Rattle.std.proofs.Common.{◌≡◌, map, take}
use Rattle.hq_request_introspect.specs.Nodes.{value_node}
use Rattle.hq_request_introspect.specs.Views.{node_view}
use Rattle.hq_request_introspect.proofs.types.value_nodes.Given as goal

abbrev pub invariant-loop-value : goal.invariant-loop-value
invariant-loop-value l = map node_view l.nodes.items ≡ map value_node (take l.value-index l.values)
