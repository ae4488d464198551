use Rattle.std.proofs.Common.{◌≡◌, map, take}
use Rattle.hq_request_introspect.specs.Nodes.{directive_node}
use Rattle.hq_request_introspect.specs.Views.{node_view}
use Rattle.hq_request_introspect.proofs.types.directive_nodes.Given as goal

abbrev pub invariant-loop-directive : goal.invariant-loop-directive
invariant-loop-directive l = map node_view l.nodes.items ≡ map directive_node (take l.directive-index l.directives)
