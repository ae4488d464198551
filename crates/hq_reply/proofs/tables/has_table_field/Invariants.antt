use Rattle.std.proofs.Common.{◌≡◌, drop, map}
use Rattle.hq_request_tree.specs.Fields.{fields_of, keyed_field_view}
use Rattle.hq_reply.specs.RootObject.{has_table_field}
use Rattle.hq_reply.proofs.tables.has_table_field.Given as goal

-- none of the fields so far starts at a table
abbrev pub invariant-loop-keyed : goal.invariant-loop-keyed
invariant-loop-keyed l =
    has_table_field (fields_of (map keyed_field_view (drop l.keyed-index l.fields.items))) ≡ has_table_field (fields_of (map keyed_field_view l.fields.items))
