use Rattle.std.proofs.Common.{◌≡◌, drop}
use Rattle.std.specs.List.{list_all}
use Rattle.hq_model.specs.Schema.{column}
use Rattle.hq_model.specs.SchemaNames.{is_unlike, scalar_of}
use Rattle.hq_model.specs.Described.{scope_schema}
use Rattle.hq_load_meta_names.proofs.scalars.are_unlike.Given as goal

-- all that are left pass, if all do
abbrev pub invariant-loop-column : goal.invariant-loop-column
invariant-loop-column l =
    list_all (λ c. is_unlike l.types (scalar_of (column (scope_schema l.scope) l.t c))) (drop l.column-index l.columns)
    ≡ list_all (λ c. is_unlike l.types (scalar_of (column (scope_schema l.scope) l.t c))) l.columns
