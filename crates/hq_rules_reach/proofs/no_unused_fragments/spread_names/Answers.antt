use Rattle.std.proofs.Common.{◌∙◌, ap, map}
use Rattle.std.specs.Prelude.{◌||◌}
use Rattle.std.specs.List.{list_any}
use Rattle.hq_gql_nodes.specs.Names.{has_name}
use Rattle.hq_gql_nodes.specs.Nodes.{node_view, part_view}
use Rattle.hq_rules_reach.specs.Spreads.{spreads}
use Rattle.hq_rules_reach.proofs.AnySoFar.{any_map_take-more}
use Rattle.hq_rules_reach.proofs.no_unused_fragments.spread_names.Goals as goal

pub loop-part-preserved : goal.loop-part-preserved
loop-part-preserved c q =
    any_map_take-more (λ p. list_any (spreads q) p.nodes) part_view c.args.parts.now c.loop-part.part-index c.part-item.result
    c.part-item.result _ _ c.loop-part-test.true c.part-item.is (c.loop-part.invariant q)
    (c.in_ok-note_spreads.ensures q ∙ ap (λ nodes. list_any (spreads q) (map node_view nodes) || has_name c.loop-part.names q) c.deref.ensures.value)
