use Rattle.std.proofs.Common.{◌≡◌, ◌≤◌, map, take, count_by}
use Rattle.hq_gql_tree.specs.Documents.{definition_view}
use Rattle.hq_request_coerce.specs.Choice.{is_operation}
use Rattle.hq_request_coerce.proofs.choice.operation_count.Given as goal

-- the operations so far
abbrev pub invariant-loop-definition : goal.invariant-loop-definition
invariant-loop-definition l = record { counted : l.count ≡ count_by is_operation (map definition_view (take l.definition-index l.definitions)); few : l.count ≤ l.definition-index }
