use Rattle.std.proofs.Common.{map, refl}
use Rattle.std.specs.Vec.Iter.{into_iter_items}
use Rattle.hq_sql_cells.specs.declared.kept.Kept.{Kept}
use Rattle.hq_base.proofs.Loops.{left_more}
use Rattle.hq_sql_cells.proofs.kept.rows_of.Goals as goal

pub loop-row-preserved : goal.loop-row-preserved
loop-row-preserved g c =
    left_more (map (λ (k : Kept _). k.row)) c.loop-row.rows.items c.push.new.self.items _ _ (into_iter_items c.next.new.self) _ _ refl
    c.in-Some.ensures.steps.0 c.in_ok-push.ensures.items c.loop-row.invariant
