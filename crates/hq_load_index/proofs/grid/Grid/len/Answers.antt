use Rattle.std.proofs.Common.{sym}
use Rattle.hq_load_index.proofs.Chunked.{length-chunked}
use Rattle.hq_load_index.proofs.grid.Grid.len.Goals as goal

pub returns : goal.returns
returns c = let g = c.args.self.now in sym (length-chunked g.width g.count g.values.items)
