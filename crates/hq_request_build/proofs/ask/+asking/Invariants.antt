use Rattle.std.proofs.Common.{◌≡◌, map, drop}
use Rattle.hq_base.specs.Due.{mapped}
use Rattle.hq_request_arguments.specs.Context.{context_view}
use Rattle.hq_request_build.specs.Asked.{fields_due, parts_due}
use Rattle.hq_request_build.proofs.Walks.{front}
use Rattle.hq_request_tree.specs.Fields.{field, part, keyed_field_view, keyed_part_view}
use Rattle.hq_request_collect.specs.TreeSeen.{collected_view, trees_of}
use Rattle.hq_request_build.proofs.ask.+asking.Given as goal

-- what is read so far, in front of what is read of the fields that are left
abbrev pub invariant-ask_fields-loop-field : goal.invariant-ask_fields-loop-field
invariant-ask_fields-loop-field l =
    let c = context_view l.context in
    fields_due c l.place l.t (trees_of (map collected_view l.fields.items))
    ≡ mapped (front field (map keyed_field_view l.asks.items)) (fields_due c l.place l.t (trees_of (map collected_view (drop l.field-index l.field-items))))

-- what is read so far, in front of what is read of the fields that are left
abbrev pub invariant-ask_parts-loop-field : goal.invariant-ask_parts-loop-field
invariant-ask_parts-loop-field l =
    let c = context_view l.context in
    parts_due c l.place l.t (trees_of (map collected_view l.fields.items))
    ≡ mapped (front part (map keyed_part_view l.parts.items)) (parts_due c l.place l.t (trees_of (map collected_view (drop l.field-index l.field-items))))
