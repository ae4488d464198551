use Rattle.std.proofs.Common.{◌∙◌, refl, ap, List, map}
use Rattle.hq_gql_tree.specs.declared.document.Definition.{Definition}
use Rattle.hq_gql_tree.specs.Documents.{definition_view}
use Rattle.hq_gql_nodes.specs.Least.{earlier, least_of}
use Rattle.hq_gql_nodes.specs.Names.{has_name}
use Rattle.hq_rules_reach.specs.Spreads.{unused_by}
use Rattle.hq_rules_reach.proofs.LeastSoFar.{least_so_far}
use Rattle.hq_rules_reach.proofs.no_unused_fragments.least_unused.Goals as goal

pub loop-definition-preserved : goal.loop-definition-preserved
loop-definition-preserved c =
    let place = unused_by (has_name c.args.names.now) in
    let x = c.definition-item.result in
    least_so_far (λ (ds : List Definition). least_of place (map definition_view ds)) c.deref-definition-items.result.now
    c.loop-definition.definition-index x x c.loop-definition.least (place (definition_view x)) _ _ c.loop-definition.invariant
    c.loop-definition-test.true c.definition-item.is refl
    (c.earlier-least.ensures ∙ ap (earlier c.loop-definition.least) c.unused_fragment.ensures)
