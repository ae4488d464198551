-- What the code's objects of introspection, its selections and its lists of types are seen as.
use Rattle.std.specs.Prelude.{ℕ, List, map}
use Rattle.std.specs.Borrow.{Bor}
use Rattle.hq_base.specs.Json.{json_view}
use Rattle.hq_request_tree.specs.Introspection.{IntrospectionTrees, looks_of, keyed_introspection_view}
use Rattle.hq_request_tree.specs.declared.introspection.KeyedIntroField.{KeyedIntroField}
use Rattle.hq_schema.specs.Schema.{TypeTree, arg_view, field_view, type_view, type_ref_view}
use Rattle.hq_schema.specs.declared.schema.TypeDef.{TypeDef}
use Rattle.hq_request_introspect.specs.Nodes.{NodeTree, type_node, list_node, non_null_node, field_node, input_node, value_node, directive_node, ResolvedTree, leaf, one, many}
use Rattle.hq_request_introspect.specs.declared.by_name.Entry.{Entry}
use Rattle.hq_request_introspect.specs.declared.node.Node.{Node}
use Rattle.hq_request_introspect.specs.declared.node.Node.TheVariants as node
use Rattle.hq_request_introspect.specs.declared.node.Resolved.{Resolved}
use Rattle.hq_request_introspect.specs.declared.node.Resolved.TheVariants as resolved

-- an object of a type of introspection
abbrev pub node_view : Node → NodeTree
node_view (node.«Type» t) = type_node (type_view t.now)
node_view (node.ListOf r) = list_node (type_ref_view r.now)
node_view (node.NonNull r) = non_null_node (type_ref_view r.now)
node_view (node.Field f) = field_node (field_view f.now)
node_view (node.Input a) = input_node (arg_view a.now)
node_view (node.Value name) = value_node name.now
node_view (node.Directive d) = directive_node d

-- what a field gives
abbrev pub resolved_view : Resolved → ResolvedTree
resolved_view (resolved.Leaf j) = leaf (json_view j)
resolved_view (resolved.One n) = one (node_view n)
resolved_view (resolved.Many ns) = many (map node_view ns.items)

-- a type under its name
abbrev pub entry_view : Entry → List ℕ × TypeTree
entry_view e = (e.name.now, type_view e.def.now)

-- types, and the fields that are selected in an object
abbrev pub types_view : List (Bor TypeDef) → List TypeTree
types_view ts = map (λ t. type_view t.now) ts

abbrev pub fields_view : List KeyedIntroField → IntrospectionTrees
fields_view fs = looks_of (map keyed_introspection_view fs)
