use Rattle.std.proofs.Common.{◌≡◌, ◌++◌, drop, is_some}
use Rattle.hq_copy_definition.specs.Sources.{kept_relationships}
use Rattle.hq_model.specs.Meta.{meta_view}
use Rattle.hq_model.specs.Permission.{permission}
use Rattle.hq_model.specs.Described.{scope_schema}
use Rattle.hq_model.specs.View.{places_from}
use Rattle.hq_copy_tables.proofs.relationships.kept_relationships.Given as goal

-- those so far, and then those of the relationships that are left
abbrev pub invariant-loop-at : goal.invariant-loop-at
invariant-loop-at l =
    l.kept.items ++ places_from (λ r. is_some (permission l.role (meta_view l.scope.meta.now) r.remote)) l.at (drop l.at l.rels)
    ≡ kept_relationships l.role (meta_view l.scope.meta.now) (scope_schema l.scope) l.fn.t
