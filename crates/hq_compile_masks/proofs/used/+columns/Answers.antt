use Rattle.std.proofs.Common.{List, map, refl}
use Rattle.hq_model.specs.Bexp.{bexp_view, bexps_of}
use Rattle.hq_model.specs.declared.bexp.Bexp.{Bexp}
use Rattle.hq_translation.specs.Predicates.{columns_in, columns_in_all}
use Rattle.hq_compile_tables.proofs.Loops.{rest-more}
use Rattle.hq_compile_masks.proofs.used.+columns.Goals as goal

-- the columns of a condition, and then those of the others that are left
pub add_all-loop-bexp-preserved : goal.add_all-loop-bexp-preserved
add_all-loop-bexp-preserved t c =
    let rest = λ (bs : List Bexp). columns_in_all (bexps_of (map bexp_view bs)) in
    let b = c.bexp-item.result in
    rest-more rest rest c.deref-bexp-items.result.now c.loop-bexp.bexp-index b c.loop-bexp.columns c.add_columns.new.columns
    (columns_in (bexp_view b)) _ c.loop-bexp.invariant c.loop-bexp-test.true c.bexp-item.is refl c.in_ok-add_columns.ensures
