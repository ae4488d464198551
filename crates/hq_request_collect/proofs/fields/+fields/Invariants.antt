use Rattle.std.proofs.Common.{◌≡◌, map, drop}
use Rattle.hq_request_collect.specs.FieldNodes.{field_nodes}
use Rattle.hq_request_coerce.specs.Variables.{var_view}
use Rattle.hq_request_collect.specs.Size.{less}
use Rattle.hq_request_collect.specs.TreeSeen.{collected_view, trees_of}
use Rattle.hq_request_collect.proofs.fields.+fields.Given as goal

-- what may still come behind all is what may behind those that are left
abbrev pub invariant-without_fields-loop-field : goal.invariant-without_fields-loop-field
invariant-without_fields-loop-field l =
    let vars = map var_view l.vars in
    less (field_nodes vars (trees_of (map collected_view l.fields.items))) l.fn.left
    ≡ less (field_nodes vars (trees_of (map collected_view (drop l.field-index l.field-items)))) l.left
