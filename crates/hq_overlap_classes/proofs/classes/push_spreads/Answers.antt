-- The spreads of the set.
use Rattle.std.proofs.Common.{◌∙◌, ap, sym}
use Rattle.hq_overlap_sets.specs.Pairs.{spreads_in}
use Rattle.hq_overlap_sets.proofs.ArenaLemmas.{set_here}
use Rattle.hq_overlap_classes.proofs.classes.push_spreads.Goals as goal

pub push_each-requires-clause-spreads : goal.push_each-requires-clause-spreads
push_each-requires-clause-spreads c =
    c.deref.ensures.value ∙ sym (ap spreads_in (set_here c.args.arena.now c.args.set c.in-Some.found.now (sym c.in-Some.ensures)))
