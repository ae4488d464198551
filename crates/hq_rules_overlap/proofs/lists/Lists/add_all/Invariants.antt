use Rattle.std.proofs.Common.{take}
use Rattle.std.specs.List.{All}
use Rattle.hq_gql_nodes.specs.Reach.{graph_view}
use Rattle.hq_overlap_sets.specs.Sets.{arena_view}
use Rattle.hq_rules_overlap.specs.Exploring.{IsKept, Continues}
use Rattle.hq_rules_overlap.specs.Groups.{AreTogether}
use Rattle.hq_rules_overlap.proofs.lists.Lists.add_all.Given as goal

-- the lists so far are kept
abbrev pub invariant-loop-row : goal.invariant-loop-row
invariant-loop-row l = record {
  lists : All (AreTogether (arena_view l.arena)) (graph_view l.self.rows.items);
  grown : Continues (graph_view l.initial.self.rows.items) (graph_view l.self.rows.items);
  kept : All (λ row. IsKept (graph_view l.self.rows.items) row.items) (take l.row-index l.rows);
}
