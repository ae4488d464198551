-- One more set that is spread.
use Rattle.hq_overlap_sets.specs.Pairs.{spreads_at}
use Rattle.hq_overlap_sets.specs.Sets.{arena_view}
use Rattle.hq_overlap_sets.proofs.Stepping.{stands_in}
use Rattle.hq_overlap_classes.specs.Classes as class
use Rattle.hq_overlap_classes.proofs.classes.push_each.Goals as goal

pub push_pair-requires-clause-pending : goal.push_pair-requires-clause-pending
push_pair-requires-clause-pending c = c.loop-spread.invariant

pub push_pair-requires-clause-joined : goal.push_pair-requires-clause-joined
push_pair-requires-clause-joined c =
    class.spread (stands_in c.args.spreads.now (spreads_at (arena_view c.args.arena.now) c.args.set) c.loop-spread.spread-index _ c.requires.spreads c.loop-spread-test.true)

pub loop-spread-init : goal.loop-spread-init
loop-spread-init c = c.requires.pending

pub loop-spread-preserved : goal.loop-spread-preserved
loop-spread-preserved c = c.in_ok-push_pair.ensures

pub returns : goal.returns
returns c = c.loop-spread.invariant
