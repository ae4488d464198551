use Rattle.std.proofs.Common.{◌∙◌, [], ◌∷◌, ◌++◌, map, ap}
use Rattle.std.proofs.lemmas.List.{map-append}
use Rattle.hq_schema.specs.Schema.{type_view}
use Rattle.hq_schema_of_role.specs.FixedTypes.{fixed_type}
use Rattle.hq_schema_of_role.proofs.Loops.{map_take-more}
use Rattle.hq_schema_of_role.proofs.fixed_types.types_of.Goals as goal

pub loop-of-preserved : goal.loop-of-preserved
loop-of-preserved c =
    let types = c.loop-of.types.items in
    let made = c.in_ok-fixed_type.field-0 in
    map_take-more (fixed_type c.args.tables.now) c.args.all.now c.loop-of.of-index _ (map type_view types) (map type_view c.push.new.self.items) c.loop-of.invariant c.loop-of-test.true
    (ap (map type_view) c.in_ok-push.ensures.items ∙ map-append type_view types (made ∷ []) ∙ ap (λ v. map type_view types ++ v ∷ []) c.in_ok-fixed_type.ensures)
