-- The set of the number.
use Rattle.std.proofs.Common.{sym}
use Rattle.hq_overlap_sets.proofs.ArenaLemmas.{set_here}
use Rattle.hq_overlap_classes.proofs.disputes.Disputes.fits_at.Goals as goal

pub fits_set-requires : goal.fits_set-requires
fits_set-requires c = set_here c.args.arena.now c.args.number c.in-Some.set.now (sym c.in-Some.ensures)
