use Rattle.std.proofs.Common.{map, refl}
use Rattle.std.specs.Vec.Iter.{into_iter_items}
use Rattle.hq_sql_cells.specs.declared.sorting.Fronted.{Fronted}
use Rattle.hq_base.proofs.Loops.{left_more}
use Rattle.hq_sql_cells.proofs.sorting.without_fronts.Goals as goal

pub loop-kept-preserved : goal.loop-kept-preserved
loop-kept-preserved g c =
    left_more (map (λ (f : Fronted _). f.kept)) c.loop-kept.rows.items c.push.new.self.items _ _ (into_iter_items c.next.new.self) _ _ refl
    c.in-Some.ensures.steps.0 c.in_ok-push.ensures.items c.loop-kept.invariant
