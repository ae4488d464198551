use Rattle.std.proofs.Common.{◌∙◌, ◌++◌, ap, sym, arith, rules}
use Rattle.std.specs.Option.{option_to_list}
use Rattle.hq_gql_tree.specs.Documents.{definition_view}
use Rattle.hq_gql_nodes.proofs.Lists.{filter_map_more}
use Rattle.hq_rules_doc.specs.Operations.{operation_name}
use Rattle.hq_rules_doc.proofs.rules.unique_operation_names.operation_names.Goals as goal

pub loop-definition-preserved : goal.loop-definition-preserved
loop-definition-preserved c =
    let x = c.definition-item.result in
    c.in_ok-push_operation.ensures
    ∙ ap (λ xs. xs ++ option_to_list (operation_name (definition_view x))) c.loop-definition.invariant
    ∙ sym (filter_map_more operation_name definition_view c.deref-definition-items.result.now c.loop-definition.definition-index x (omega arith) (search rules))
