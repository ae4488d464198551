use Rattle.std.proofs.Common.{◌≡◌, None, length}
use Rattle.hq_schema.specs.Schema.{schema_view}
use Rattle.hq_gql_tree.specs.View.{document_view}
use Rattle.hq_gql_nodes.specs.Reach.{graph_view}
use Rattle.hq_rules_reach.specs.Fit.{IsClear}
use Rattle.hq_rules_reach.specs.Spreads.{least_below, place_at}
use Rattle.hq_rules_reach.specs.Uses.{uses_view}
use Rattle.hq_rules_reach.specs.Variables.{undefined_in, unused_in, wrong_in, in_operation}
use Rattle.hq_rules_reach.proofs.variables.least_places.Given as goal

-- the least places of the definitions so far
abbrev pub invariant-loop-at : goal.invariant-loop-at
invariant-loop-at l = record {
  long : length l.places.items ≡ l.uses.numbers.count;
  clear : IsClear l.places.items;
  undefined : l.least.undefined ≡ least_below (place_at (in_operation (undefined_in (uses_view l.uses.all.items)) (graph_view l.graph)) (document_view l.document)) l.at;
  unused : l.least.undefined ≡ None → l.least.unused ≡ least_below (place_at (in_operation (unused_in (uses_view l.uses.all.items)) (graph_view l.graph)) (document_view l.document)) l.at;
  wrong : l.least.undefined ≡ None
      → l.least.wrong
      ≡ least_below
      (place_at (in_operation (wrong_in (schema_view l.schema) (uses_view l.uses.all.items)) (graph_view l.graph))
      (document_view l.document))
      l.at;
}
