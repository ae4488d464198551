use Rattle.std.proofs.Common.{◌≡◌, take}
use Rattle.std.specs.List.{All}
use Rattle.hq_overlap_classes.specs.Disputes.{class_of}
use Rattle.hq_overlap_classes.proofs.disputes.Disputes.fits_spreads.Given as goal

-- the sets so far are of the class
abbrev pub invariant-loop-spread : goal.invariant-loop-spread
invariant-loop-spread l = All (λ u. class_of l.self.classes.sets u ≡ l.class) (take l.spread-index l.spreads)
