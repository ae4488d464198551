use Rattle.std.proofs.Common.{◌≡◌, map, drop}
use Rattle.std.specs.List.{position_from}
use Rattle.hq_gql_tree.specs.Documents.{definition_view}
use Rattle.hq_request_coerce.specs.Choice.{is_operation_named}
use Rattle.hq_request_coerce.proofs.choice.operation_named.Given as goal

-- the first of all is the first of those that are left
abbrev pub invariant-loop-at : goal.invariant-loop-at
invariant-loop-at l =
    position_from (is_operation_named l.name) l.at (map definition_view (drop l.at l.definitions)) ≡ position_from (is_operation_named l.name) 0 (map definition_view l.definitions)
