use Rattle.std.proofs.Common.{◌≡◌, ◌++◌, map, take}
use Rattle.std.specs.List.{join_with_byte}
use Rattle.hq_base.specs.Compact.{element_texts, member_texts}
use Rattle.hq_base.specs.Json.{elements_of}
use Rattle.hq_schema.specs.Schema.{schema_view}
use Rattle.hq_request_introspect.specs.Selections.{members, object_of}
use Rattle.hq_request_introspect.specs.Views.{node_view, fields_view}
use Rattle.hq_request_introspect.proofs.select.+select.Given as goal

-- the members for the fields so far
abbrev pub invariant-put_object-loop-at : goal.invariant-put_object-loop-at
invariant-put_object-loop-at l = l.out ≡ l.initial.out ++ join_with_byte 44 (member_texts (members (fields_view (take l.at l.fields.items)) (schema_view l.schema) (node_view l.node)))

-- the objects so far
abbrev pub invariant-put_objects-loop-at : goal.invariant-put_objects-loop-at
invariant-put_objects-loop-at l =
    l.out
    ≡ l.initial.out
    ++ join_with_byte 44
    (element_texts
    (elements_of (map (object_of (fields_view l.fields.items) (schema_view l.schema)) (map node_view (take l.at l.nodes)))))
