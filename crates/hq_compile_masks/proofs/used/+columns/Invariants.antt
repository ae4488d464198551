use Rattle.std.proofs.Common.{◌≡◌, ◌++◌, map, drop}
use Rattle.hq_model.specs.Bexp.{bexp_view, bexps_of}
use Rattle.hq_translation.specs.Predicates.{columns_in_all}
use Rattle.hq_compile_masks.proofs.used.+columns.Given as goal

abbrev pub invariant-add_all-loop-bexp : goal.invariant-add_all-loop-bexp
invariant-add_all-loop-bexp l =
    l.columns ++ columns_in_all (bexps_of (map bexp_view (drop l.bexp-index l.bexp-items)))
    ≡ l.initial.columns ++ columns_in_all (bexps_of (map bexp_view l.bexp-items))
