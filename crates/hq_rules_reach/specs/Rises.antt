-- Numbers of the places of a graph that do not fall along any step.
use Rattle.std.specs.Prelude.{ℕ, ◌<◌, ◌≤◌, List, [], length, slice_index_or}
use Rattle.hq_gql_nodes.specs.Reach.{Graph}
use Rattle.hq_gql_nodes.specs.Marks.{Among}

abbrev pub Rises : Graph → List ℕ → Type 0
Rises g numbers = (p : ℕ) → p < length g → (q : ℕ) → Among (length g) (slice_index_or g p []) q → slice_index_or numbers p 0 ≤ slice_index_or numbers q 0
