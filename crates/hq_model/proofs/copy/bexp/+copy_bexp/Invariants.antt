use Rattle.std.proofs.Common.{◌≡◌, map, take}
use Rattle.hq_model.specs.Bexp.{bexp_view}
use Rattle.hq_model.proofs.copy.bexp.+copy_bexp.Given as goal

abbrev pub invariant-copy_bexps-loop-bexp : goal.invariant-copy_bexps-loop-bexp
invariant-copy_bexps-loop-bexp l = map bexp_view l.copy.items ≡ map bexp_view (take l.bexp-index l.bexp-items)
