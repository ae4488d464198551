use Rattle.std.proofs.Common.{◌∙◌, [], ◌∷◌, ◌++◌, ap, map}
use Rattle.std.proofs.lemmas.List.{map-append}
use Rattle.hq_schema.specs.Schema.{field_view}
use Rattle.hq_schema_of_role.specs.Rows.{row_field}
use Rattle.hq_schema_of_role.proofs.Loops.{map_take-more}
use Rattle.hq_schema_of_role.proofs.rows.row_fields.Goals as goal

pub loop-row-preserved : goal.loop-row-preserved
loop-row-preserved c =
    map_take-more row_field c.args.rows.now c.loop-row.row-index _ (map field_view c.loop-row.fields.items) (map field_view c.push.new.self.items) c.loop-row.invariant c.loop-row-test.true
    (ap (map field_view) c.in_ok-push.ensures.items ∙ map-append field_view _ _ ∙ ap (λ f. map field_view c.loop-row.fields.items ++ f ∷ []) c.in_ok-row_field.ensures)
