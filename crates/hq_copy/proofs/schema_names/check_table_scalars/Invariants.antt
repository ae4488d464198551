use Rattle.std.proofs.Common.{◌≡◌, drop}
use Rattle.hq_copy_definition.specs.Refusals.{first_of, like_type}
use Rattle.hq_model.specs.Meta.{MetaTree}
use Rattle.hq_model.specs.Permission.{named_from}
use Rattle.hq_model.specs.Schema.{column, schema_of}
use Rattle.hq_model.specs.SchemaNames.{scalar_of}
use Rattle.hq_copy.proofs.schema_names.check_table_scalars.Given as goal

-- no scalar of the columns so far is refused
abbrev pub invariant-loop-c : goal.invariant-loop-c
invariant-loop-c l =
    (m : MetaTree) → first_of (λ d. like_type l.types (scalar_of (column (schema_of l.tables m) l.tracked.table d))) (named_from l.c (drop l.c l.names))
    ≡ first_of (λ d. like_type l.types (scalar_of (column (schema_of l.tables m) l.tracked.table d))) (named_from 0 l.names)
