-- The sets at fault so far, and all of them.
use Rattle.std.proofs.lemmas.Bool.{ltb-true}
use Rattle.hq_overlap_sets.specs.Sets.{arena_view}
use Rattle.hq_overlap_classes.proofs.Counting.{none_found, more_found}
use Rattle.hq_overlap_classes.proofs.disputes.Disputes.are_more_at_fault.Goals as goal

pub loop-number-init : goal.loop-number-init
loop-number-init c = none_found (arena_view c.args.arena.now)

pub loop-number-preserved : goal.loop-number-preserved
loop-number-preserved c = c.with_set-sum.ensures

pub returns : goal.returns
returns c = λ held. more_found (arena_view c.args.arena.now) c.loop-number.number c.args.most c.loop-number.sum (ltb-true c.args.most c.loop-number.sum held) c.loop-number.invariant
