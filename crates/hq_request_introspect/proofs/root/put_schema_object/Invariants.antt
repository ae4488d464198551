use Rattle.std.proofs.Common.{◌≡◌, ◌++◌, map, take}
use Rattle.std.specs.List.{join_with_byte}
use Rattle.hq_base.specs.Compact.{member_texts}
use Rattle.hq_schema.specs.Schema.{schema_view, type_view}
use Rattle.hq_request_introspect.specs.Nodes.{schema_node}
use Rattle.hq_request_introspect.specs.Selections.{members}
use Rattle.hq_request_introspect.specs.Views.{fields_view}
use Rattle.hq_request_introspect.proofs.root.put_schema_object.Given as goal

-- the members for the fields so far
abbrev pub invariant-loop-at : goal.invariant-loop-at
invariant-loop-at l =
    l.out ≡ l.initial.out ++ join_with_byte 44 (member_texts (members (fields_view (take l.at l.fields.items)) (schema_view l.schema) (schema_node (map (λ t. type_view t.now) l.types))))
