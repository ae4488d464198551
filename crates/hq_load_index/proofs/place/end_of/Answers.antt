use Rattle.std.proofs.Common.{rules, ◌≡◌, map, true, false, get_or, arith}
use Rattle.hq_load_index.specs.Grids.{rows_in}
use Rattle.hq_load_index.specs.Keys.{cell_view}
use Rattle.hq_load_index.specs.Places.{stands_before}
use Rattle.hq_load_index.proofs.Spans.{stands_behind}
use Rattle.hq_load_index.proofs.place.end_of.Goals as goal

pub returns-then-not-stands_before-clause-place : goal.returns-then-not-stands_before-clause-place
returns-then-not-stands_before-clause-place g c =
    let columns = c.args.columns.now in
    let rows = rows_in c.args.grid.now in
    let key = map cell_view c.args.key.now in
    let here : stands_before columns rows key true (get_or c.args.entries.now c.loop-compared.end 0) ≡ false = search rules in
    record {
      within = c.loop-compared.invariant.within;
      before = c.loop-compared.invariant.before;
      behind = stands_behind columns rows key true c.args.entries.now c.requires.index c.loop-compared.end here;
    }

pub overflow_add-result : goal.overflow_add-result
overflow_add-result g c =
    let rest = c.first_behind-rest.ensures.few 64 c.loop-compared.invariant.short in
    omega (arith, rest, c.loop-compared.invariant.few)
