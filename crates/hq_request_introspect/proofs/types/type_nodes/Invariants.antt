use Rattle.std.proofs.Common.{◌≡◌, map, take}
use Rattle.hq_schema.specs.Schema.{type_view}
use Rattle.hq_request_introspect.specs.Nodes.{type_node}
use Rattle.hq_request_introspect.specs.Views.{node_view}
use Rattle.hq_request_introspect.proofs.types.type_nodes.Given as goal

abbrev pub invariant-loop-def : goal.invariant-loop-def
invariant-loop-def l = map node_view l.nodes.items ≡ map type_node (map (λ t. type_view t.now) (take l.def-index l.types))
