use Rattle.std.proofs.Common.{◌≡◌, ℕ, ◌<◌, ◌-◌, [], length, get_or, true}
use Rattle.hq_gql_nodes.specs.Reach.{has, graph_view}
use Rattle.hq_gql_nodes.specs.Marks.{Among, Agrees}
use Rattle.hq_gql_nodes.proofs.Walks.{InSteps}
use Rattle.hq_gql_nodes.proofs.search.reached.Given as goal

-- the marked places are reached, and those so far lead to marked ones
abbrev pub invariant-loop-at : goal.invariant-loop-at
invariant-loop-at l =
    record {
      as_long : length l.marks.items ≡ length (graph_view l.graph);
      agrees : Agrees l.marks.items l.order.items;
      first : (q : ℕ)
          → Among (length (graph_view l.graph)) l.starts q
          → has l.order.items q ≡ true;
      steps : InSteps (graph_view l.graph) l.starts l.order.items;
      closed : (j : ℕ) → j < l.at
          → j < length l.order.items → (q : ℕ)
          → Among (length (graph_view l.graph)) (get_or (graph_view l.graph) (get_or l.order.items j 0) []) q → has l.order.items q ≡ true;
    }

-- the places that are left to look on from
abbrev pub decreases-loop-at : goal.decreases-loop-at
decreases-loop-at l = length l.graph - l.at
