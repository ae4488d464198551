-- What a cell in memory is seen as.
use Rattle.hq_base.specs.Cells as tree
use Rattle.hq_base.specs.Cells.{CellTree}
use Rattle.hq_base.specs.Json.{json_view}
use Rattle.hq_sql_cells.specs.declared.cell.Cell.{Cell}
use Rattle.hq_sql_cells.specs.declared.cell.Cell.TheVariants.{Null, Int, Text, Bool, Json}

-- the cell, wherever its text lies
abbrev pub cell_view : Cell → CellTree
cell_view Null = tree.null
cell_view (Int n) = tree.int n
cell_view (Text t) = tree.text t.now
cell_view (Bool b) = tree.bool b
cell_view (Json j) = tree.json (json_view j)
