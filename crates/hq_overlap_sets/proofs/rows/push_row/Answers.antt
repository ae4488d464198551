-- The numbers of a row that has one more.
use Rattle.std.proofs.Common.{rules, [], ◌∷◌}
use Rattle.hq_overlap_sets.proofs.RowLemmas.{still_in, pushed_in, pushed_only}
use Rattle.hq_overlap_sets.proofs.rows.push_row.Goals as goal

pub returns-in_ok-push-clause-kept : goal.returns-in_ok-push-clause-kept
returns-in_ok-push-clause-kept c =
    still_in c.args.rows.now.items c.args.at c.index_mut.result.now c.push.new.self (c.args.number ∷ []) (search rules) c.index_mut.ensures.value c.in_ok-push.ensures.items

pub returns-in_ok-push-clause-added : goal.returns-in_ok-push-clause-added
returns-in_ok-push-clause-added c = λ h.
    pushed_in c.args.rows.now.items c.args.at c.index_mut.result.now c.push.new.self c.args.number h c.index_mut.ensures.value c.in_ok-push.ensures.items

pub returns-in_ok-push-clause-only : goal.returns-in_ok-push-clause-only
returns-in_ok-push-clause-only c =
    pushed_only c.args.rows.now.items c.args.at c.index_mut.result.now c.push.new.self c.args.number (search rules) c.index_mut.ensures.value c.in_ok-push.ensures.items
