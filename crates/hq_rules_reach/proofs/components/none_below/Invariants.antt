use Rattle.std.proofs.Common.{ℕ, ◌≤◌, length, take, get_or}
use Rattle.hq_gql_nodes.specs.Marks.{Among}
use Rattle.hq_rules_reach.proofs.components.none_below.Given as goal

-- the places so far have no lesser numbers
abbrev pub invariant-loop-place : goal.invariant-loop-place
invariant-loop-place l = (q : ℕ) → Among (length l.numbers) (take l.place-index l.places) q → l.number ≤ get_or l.numbers q 0
