use Rattle.std.proofs.Common.{◌≡◌, drop}
use Rattle.std.specs.List.{list_any}
use Rattle.hq_base.specs.Aggregates.{is_aggregate_of}
use Rattle.hq_model.specs.Meta.{MetaTree}
use Rattle.hq_model.specs.Permission.{named_from}
use Rattle.hq_model.specs.Schema.{column, schema_of}
use Rattle.hq_copy.proofs.schema_names.is_aggregated.Given as goal

-- the aggregate is one of a column that is left
abbrev pub invariant-loop-c : goal.invariant-loop-c
invariant-loop-c l =
    (m : MetaTree) → list_any (λ d. is_aggregate_of l.aggregate (column (schema_of l.tables m) l.tracked.table d).ty) (named_from l.c (drop l.c l.names))
    ≡ list_any (λ d. is_aggregate_of l.aggregate (column (schema_of l.tables m) l.tracked.table d).ty) (named_from 0 l.names)
