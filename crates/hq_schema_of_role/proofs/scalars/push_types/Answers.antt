use Rattle.std.proofs.Common.{◌∙◌, [], ◌∷◌, ◌++◌, ap, map}
use Rattle.std.proofs.lemmas.List.{map-append}
use Rattle.hq_schema.specs.Schema.{type_view}
use Rattle.hq_schema_of_role.specs.Scalars.{scalar_type}
use Rattle.hq_schema_of_role.proofs.Loops.{map_drop-more}
use Rattle.hq_schema_of_role.proofs.scalars.push_types.Goals as goal

pub loop-name-preserved : goal.loop-name-preserved
loop-name-preserved c =
    map_drop-more scalar_type c.args.scalars.now c.loop-name.name-index _ (map type_view c.loop-name.types.items) (map type_view c.push.new.self.items) _ c.loop-name.invariant c.loop-name-test.true
    (ap (map type_view) c.in_ok-push.ensures.items ∙ map-append type_view _ _ ∙ ap (λ t. map type_view c.loop-name.types.items ++ t ∷ []) (c.in_ok-scalar_type.ensures ∙ ap scalar_type c.name-item.is))
