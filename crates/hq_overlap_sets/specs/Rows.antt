-- Lists of rows of numbers.
use Rattle.std.specs.Prelude.{ℕ, List, [], slice_index_or, Vec}
use Rattle.std.specs.declared.alloc.Global.{Global}
use Rattle.hq_gql_nodes.specs.Reach.{graph_view}

-- a row; one beyond the list has no numbers
abbrev pub row_at : List (Vec ℕ Global) → ℕ → List ℕ
row_at rows at = slice_index_or (graph_view rows) at []
