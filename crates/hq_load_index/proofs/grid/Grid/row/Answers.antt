use Rattle.std.proofs.Common.{◌≡◌, ◌+◌, ◌-◌, ◌*◌, arith}
use Rattle.hq_load_index.proofs.Chunked.{row_at, no_row_at}
use Rattle.hq_load_index.proofs.grid.Grid.row.Goals as goal

pub returns-then-at-self : goal.returns-then-at-self
returns-then-at-self c = let g = c.args.self.now in no_row_at g.width g.count g.values.items c.args.at (omega arith)

pub returns : goal.returns
returns c =
    let g = c.args.self.now in
    let e : (c.args.at * g.width + g.width) - c.args.at * g.width ≡ g.width = omega arith in
    rw (c.deref.ensures.value, e) (row_at g.width g.count g.values.items c.args.at c.if-at-self.false)
