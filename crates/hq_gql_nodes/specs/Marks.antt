-- The marks of the places that are found, and their list.
use Rattle.std.specs.Prelude.{◌≡◌, ℕ, ◌<◌, ◌++◌, List, slice_index_or, Bool, true, false, nat_eq}
use Rattle.std.specs.List.{IsDistinct}
use Rattle.hq_gql_nodes.specs.Reach.{has}

-- a place of a graph of so many that stands in a list
abbrev pub Among : (count : ℕ) → List ℕ → ℕ → Type 0
Among count places q = (q < count) × (has places q ≡ true)

-- the marked places are those of the list, which stand there once
pub record Agrees (marks : List Bool) (order : List ℕ) : Type 0 where
  pub same : (q : ℕ) → slice_index_or marks q false ≡ has order q
  pub once : IsDistinct nat_eq order

-- the list has grown at its end by places among these
pub record Adds (count : ℕ) (places : List ℕ) (old new : List ℕ) : Type 0 where
  pub more : List ℕ
  pub grown : new ≡ old ++ more
  pub from : (q : ℕ) → has more q ≡ true → Among count places q
