use Rattle.std.proofs.Common.{◌≡◌, ◌++◌, map, drop}
use Rattle.std.specs.Prelude.{flat_map}
use Rattle.hq_schema.specs.Schema.{field_view}
use Rattle.hq_schema_of_role.specs.Fields.{link_fields}
use Rattle.hq_schema_of_role.proofs.fields.push_links.Given as goal

abbrev pub invariant-loop-link : goal.invariant-loop-link
invariant-loop-link l =
    map field_view l.fields.items ++ flat_map link_fields (drop l.link-index l.link-items)
    ≡ map field_view l.initial.fields.items ++ flat_map link_fields l.link-items
