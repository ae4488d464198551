use Rattle.hq_io_system.proofs.link.drain.Given as goal

abbrev pub decreases-pieces : goal.decreases-pieces
decreases-pieces g l = l.left
