use Rattle.std.proofs.Common.{◌≡◌, ℕ, length, take, true}
use Rattle.hq_gql_nodes.specs.Reach.{has}
use Rattle.hq_gql_nodes.specs.Marks.{Among, Agrees, Adds}
use Rattle.hq_gql_nodes.proofs.search.mark_all.Given as goal

-- the places so far are marked
abbrev pub invariant-loop-place : goal.invariant-loop-place
invariant-loop-place l =
    record {
      as_long : length l.marks.items ≡ length l.initial.marks.items;
      agrees : Agrees l.marks.items l.order.items;
      marked : (q : ℕ)
          → Among (length l.initial.marks.items) (take l.place-index l.places) q
          → has l.order.items q
          ≡ true;
      adds : Adds (length l.initial.marks.items) (take l.place-index l.places) l.initial.order.items l.order.items;
    }
