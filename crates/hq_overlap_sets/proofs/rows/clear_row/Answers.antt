-- The numbers of the other rows.
use Rattle.hq_overlap_sets.proofs.RowLemmas.{cleared}
use Rattle.hq_overlap_sets.proofs.rows.clear_row.Goals as goal

pub returns-then-at-len : goal.returns-then-at-len
returns-then-at-len c = cleared c.args.rows.now.items c.args.at c.clear.new.self c.clear.ensures.items
