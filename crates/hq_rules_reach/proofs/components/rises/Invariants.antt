use Rattle.std.proofs.Common.{ℕ, ◌<◌, ◌≤◌, length, get_or, []}
use Rattle.hq_gql_nodes.specs.Reach.{graph_view}
use Rattle.hq_gql_nodes.specs.Marks.{Among}
use Rattle.hq_rules_reach.proofs.components.rises.Given as goal

-- the places so far lead to no lesser numbers
abbrev pub invariant-loop-place : goal.invariant-loop-place
invariant-loop-place l = (p : ℕ) → p < l.place → (q : ℕ) → Among (length l.numbers) (get_or (graph_view l.graph) p []) q → get_or l.numbers p 0 ≤ get_or l.numbers q 0
