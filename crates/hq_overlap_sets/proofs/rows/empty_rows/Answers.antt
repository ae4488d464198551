-- One more row.
use Rattle.std.proofs.Common.{rules, sym, subst}
use Rattle.hq_overlap_sets.proofs.RowLemmas.{NoneIn, none_more}
use Rattle.hq_overlap_sets.proofs.rows.empty_rows.Goals as goal

pub loop-preserved : goal.loop-preserved
loop-preserved c = record {
  length = search rules;
  empty = subst NoneIn (sym c.in_ok-push.ensures.items) (none_more c.loop.rows.items c.new.result (search rules) c.loop.invariant.empty);
}
