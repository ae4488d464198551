use Rattle.std.proofs.Common.{◌≡◌, drop, map}
use Rattle.hq_copy_definition.specs.Refusals.{first_of, scalar_refusal}
use Rattle.hq_model.specs.Meta.{MetaTree, tracked_view}
use Rattle.hq_model.specs.Schema.{schema_of}
use Rattle.hq_copy.proofs.schema_names.check_scalars.Given as goal

-- no scalar of the tables so far is refused
abbrev pub invariant-loop-tracked : goal.invariant-loop-tracked
invariant-loop-tracked l =
    (m : MetaTree) → first_of (scalar_refusal (schema_of l.tables m) l.types) (map tracked_view (drop l.tracked-index l.tracked-items))
    ≡ first_of (scalar_refusal (schema_of l.tables m) l.types) (map tracked_view l.tracked-items)
