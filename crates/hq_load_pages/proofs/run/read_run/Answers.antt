use Rattle.std.proofs.Common.{rules}
use Rattle.hq_load_pages.proofs.Cells.{cells_step}
use Rattle.hq_load_pages.proofs.run.read_run.Goals as goal

-- a cell more is read
pub cells-preserved : goal.cells-preserved
cells-preserved c =
    let h =
    cells_step c.cells.values.items c.in-Some.cell.value c.args.count c.args.bytes.now c.cells.rest.now c.in-Some.cell.rest.now
    (search rules) (search rules) (search rules) c.cells.invariant.behind c.cells.invariant.exact in
    search (rules, h.0, h.1, h.2)
