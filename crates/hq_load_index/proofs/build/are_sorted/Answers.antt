use Rattle.std.proofs.Common.{◌≡◌, ◌-◌, ◌≤◌, false, length, is_gt, rules, arith}
use Rattle.hq_load_index.specs.Grids.{rows_in}
use Rattle.hq_load_index.specs.Indexes.{by_key}
use Rattle.hq_load_index.proofs.Ascending.{sorted_already, step_more}
use Rattle.hq_load_index.proofs.build.are_sorted.Goals as goal

pub loop-at-preserved : goal.loop-at-preserved
loop-at-preserved c =
    let order = by_key c.args.columns.now (rows_in c.args.grid.now) in
    let step : is_gt (order (c.loop-at.at - 1) c.loop-at.at) ≡ false = search rules in
    step_more order c.loop-at.at (omega (arith, c.loop-at.auto.at)) c.loop-at.invariant step

pub returns : goal.returns
returns c =
    let rows = rows_in c.args.grid.now in
    let whole : length rows ≤ c.loop-at.at = omega (arith, c.loop-at-test.false, c.len-at-end.ensures) in
    λ _. sorted_already c.args.columns.now rows c.loop-at.at whole c.loop-at.invariant
