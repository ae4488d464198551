-- The numbers of a row that grew.
use Rattle.std.proofs.Common.{rules}
use Rattle.hq_overlap_sets.proofs.RowLemmas.{extended}
use Rattle.hq_overlap_sets.proofs.rows.extend_row.Goals as goal

pub returns-in_ok-extend_from_slice : goal.returns-in_ok-extend_from_slice
returns-in_ok-extend_from_slice c =
    extended c.args.rows.now.items c.args.at c.index_mut.result.now c.extend_from_slice.new.self c.args.more.now (search rules) c.index_mut.ensures.value c.in_ok-extend_from_slice.ensures.items
