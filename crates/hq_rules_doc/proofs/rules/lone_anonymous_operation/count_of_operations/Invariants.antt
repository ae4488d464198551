use Rattle.std.proofs.Common.{◌≡◌, ◌≤◌, map, take, count_by}
use Rattle.hq_gql_tree.specs.Documents.{definition_view}
use Rattle.hq_rules_doc.specs.Operations.{is_operation}
use Rattle.hq_rules_doc.proofs.rules.lone_anonymous_operation.count_of_operations.Given as goal

-- the operations so far
abbrev pub invariant-loop-definition : goal.invariant-loop-definition
invariant-loop-definition l = record { counted : l.count ≡ count_by is_operation (map definition_view (take l.definition-index l.definition-items)); few : l.count ≤ l.definition-index }
