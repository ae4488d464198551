use Rattle.std.proofs.Common.{◌≡◌, map, take}
use Rattle.hq_schema.specs.Schema.{arg_view}
use Rattle.hq_request_introspect.specs.Nodes.{input_node}
use Rattle.hq_request_introspect.specs.Views.{node_view}
use Rattle.hq_request_introspect.proofs.types.input_nodes.Given as goal

abbrev pub invariant-loop-input : goal.invariant-loop-input
invariant-loop-input l = map node_view l.nodes.items ≡ map input_node (map arg_view (take l.input-index l.inputs))
