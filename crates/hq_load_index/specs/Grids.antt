-- The rows of a grid.
use Rattle.std.specs.Prelude.{List}
use Rattle.hq_base.specs.declared.value.Val.{Val}
use Rattle.hq_load_index.specs.Chunks.{chunked}
use Rattle.hq_load_index.specs.declared.grid.Grid.{Grid}

-- its rows, in order
abbrev pub rows_in : Grid → List (List Val)
rows_in g = chunked g.width g.count g.values.items
