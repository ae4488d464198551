use Rattle.std.proofs.Common.{rules, ◌≡◌, ◌+◌, ◌-◌, ◌/◌, ◌<◌, map, true, false, get_or, arith}
use Rattle.hq_load_index.specs.Grids.{rows_in}
use Rattle.hq_load_index.specs.Keys.{cell_view}
use Rattle.hq_load_index.specs.Places.{stands_before}
use Rattle.hq_load_index.proofs.Spans.{stands_below, stands_behind, ends_step, ends_below}
use Rattle.hq_load_index.proofs.place.first_behind.Goals as goal

pub overflow_add-compared : goal.overflow_add-compared
overflow_add-compared g c =
    let few = ends_below (c.loop-low.high - c.loop-low.low) c.loop-low.compared 64 (omega arith) (c.loop-low.invariant.few 64 c.loop-low.invariant.short) in
    omega arith

pub loop-low-preserved-then-stands_before : goal.loop-low-preserved-then-stands_before
loop-low-preserved-then-stands_before g c =
    let columns = c.args.columns.now in
    let rows = rows_in c.args.grid.now in
    let key = map cell_view c.args.key.now in
    let m = c.loop-low.low + (c.loop-low.high - c.loop-low.low) / 2 in
    let below : m < c.loop-low.high = omega arith in
    let fits = c.loop-low.invariant.within in
    let here : stands_before columns rows key c.args.after (get_or c.args.entries.now m 0) ≡ true = search rules in
    record {
      ordered = omega arith;
      within = fits;
      above = omega arith;
      before = stands_below columns rows key c.args.after c.args.entries.now c.requires.index m (omega arith) here;
      behind = c.loop-low.invariant.behind;
      short = c.loop-low.invariant.short;
      counted = omega arith;
      few = λ b h. ends_step (c.loop-low.high - c.loop-low.low) _ c.loop-low.compared b (omega arith) (omega arith) (c.loop-low.invariant.few b h);
    }

pub loop-low-preserved : goal.loop-low-preserved
loop-low-preserved g c =
    let columns = c.args.columns.now in
    let rows = rows_in c.args.grid.now in
    let key = map cell_view c.args.key.now in
    let m = c.loop-low.low + (c.loop-low.high - c.loop-low.low) / 2 in
    let below : m < c.loop-low.high = omega arith in
    let fits = c.loop-low.invariant.within in
    let here : stands_before columns rows key c.args.after (get_or c.args.entries.now m 0) ≡ false = search rules in
    record {
      ordered = omega arith;
      within = omega arith;
      above = c.loop-low.invariant.above;
      before = c.loop-low.invariant.before;
      behind = stands_behind columns rows key c.args.after c.args.entries.now c.requires.index m here;
      short = c.loop-low.invariant.short;
      counted = omega arith;
      few = λ b h. ends_step (c.loop-low.high - c.loop-low.low) _ c.loop-low.compared b (omega arith) (omega arith) (c.loop-low.invariant.few b h);
    }
