-- The cells of keys.
use Rattle.hq_base.specs.Cells as cell
use Rattle.hq_base.specs.Cells.{CellTree}

-- the cell that a key has for a cell: no row has JSON as a key
abbrev pub key_cell : CellTree → CellTree
key_cell (cell.json j) = cell.null
key_cell c = c
