-- The edges of one more set.
use Rattle.hq_overlap_sets.specs.Sets.{arena_view}
use Rattle.hq_overlap_classes.proofs.Joining.{no_edges}
use Rattle.hq_overlap_classes.proofs.leading.leading.Goals as goal

pub add_edges-requires-clause-edges : goal.add_edges-requires-clause-edges
add_edges-requires-clause-edges c = c.loop-number.invariant

pub loop-number-init : goal.loop-number-init
loop-number-init c = no_edges (arena_view c.args.arena.now) c.in_ok-rows.rows.items c.in_ok-rows.ensures.empty

pub loop-number-preserved : goal.loop-number-preserved
loop-number-preserved c = c.in_ok-add_edges.ensures

pub returns : goal.returns
returns c = c.loop-number.invariant
