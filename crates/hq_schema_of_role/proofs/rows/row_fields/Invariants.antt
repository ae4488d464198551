use Rattle.std.proofs.Common.{◌≡◌, map, take}
use Rattle.hq_schema.specs.Schema.{field_view}
use Rattle.hq_schema_of_role.specs.Rows.{row_field}
use Rattle.hq_schema_of_role.proofs.rows.row_fields.Given as goal

abbrev pub invariant-loop-row : goal.invariant-loop-row
invariant-loop-row l = map field_view l.fields.items ≡ map row_field (take l.row-index l.rows)
