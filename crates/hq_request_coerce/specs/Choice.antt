-- The operation of a document that a request names (GraphQL October 2021, 6.1: executing requests).
use Rattle.std.specs.Prelude.{ℕ, List, [], ◌∷◌, Bool, true, false, ◌==◌, count_by, if◌then◌else◌, Option, Some, None, option_and_then, slice_get, Result, Ok, Err, ok_or, bytes_eq}
use Rattle.std.specs.List.{position_from}
use Rattle.std.specs.Option.{option_map_or}
use Rattle.hq_base.specs.Due.{and_then}
use Rattle.hq_gql_tree.specs.Documents.{OperationTree, DefinitionTree, operation, fragment, DocumentTree}
use Rattle.hq_gql_tree.specs.declared.document.OpKind.{OpKind}
use Rattle.hq_gql_tree.specs.declared.document.OpKind.TheVariants as op
use Rattle.hq_gql_tree.specs.declared.fault.Fault.{Fault}
use Rattle.hq_gql_tree.specs.declared.rule.RuleId.TheVariants as rule
use Rattle.hq_request_coerce.specs.Faults.{fault_of}

-- the operation that a definition is
abbrev pub operation_in : DefinitionTree → Option OperationTree
operation_in (operation o) = Some o
operation_in (fragment f) = None

abbrev pub is_operation : DefinitionTree → Bool
is_operation (operation o) = true
is_operation (fragment f) = false

abbrev pub is_operation_named : (name : List ℕ) → DefinitionTree → Bool
is_operation_named name (operation o) = option_map_or (λ n. bytes_eq n name) o.name false
is_operation_named name (fragment f) = false

-- the one operation, where there is exactly one
abbrev pub sole_operation : DocumentTree → Option ℕ
sole_operation d = if count_by is_operation d == 1 then position_from is_operation 0 d else None

-- the operation of a name, by its place among the definitions; without a name, also an empty one, the sole one
abbrev pub operation_for : DocumentTree → Option (List ℕ) → Option ℕ
operation_for d None = sole_operation d
operation_for d (Some []) = sole_operation d
operation_for d (Some (c ∷ cs)) = position_from (is_operation_named (c ∷ cs)) 0 d

-- the operation at a place among the definitions
abbrev pub operation_at : DocumentTree → ℕ → Option OperationTree
operation_at d place = option_and_then operation_in (slice_get d place)

-- queries alone are answered: the fault of others stands at the operation
abbrev pub if_query : (place at : ℕ) → OpKind → Result ℕ Fault
if_query place at op.Query = Ok place
if_query place at op.Mutation = Err (fault_of rule.OnlyQueries (Some at))
if_query place at op.Subscription = Err (fault_of rule.OnlyQueries (Some at))

abbrev pub no_operation : Fault
no_operation = fault_of rule.NoSuchOperation None

abbrev pub query_at : (place : ℕ) → Option OperationTree → Result ℕ Fault
query_at place None = Err no_operation
query_at place (Some o) = if_query place o.at o.kind

-- the query to be answered, by its place among the definitions
abbrev pub chosen : DocumentTree → (name : Option (List ℕ)) → Result ℕ Fault
chosen d name = and_then (λ place. query_at place (operation_at d place)) (ok_or (operation_for d name) no_operation)
