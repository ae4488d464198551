use Rattle.std.proofs.Common.{◌∙◌, ◌<◌, ◌&&◌, Bool, false, get_or, length, ap, arith}
use Rattle.hq_model.specs.Database.{Row}
use Rattle.hq_sql_constants.specs.RowTests.{one_holds}
use Rattle.hq_sql_eval.proofs.RowTests.{rows_step, rows_end}
use Rattle.hq_sql_eval.proofs.plain.narrowed_by_tests.Goals as goal

pub loop-position-preserved : goal.loop-position-preserved
loop-position-preserved c =
    let rows = c.args.rows.now in
    let before = c.args.before.now in
    let f : Row → Bool = one_holds c.args.tests.now in
    let i = c.loop-position.position in
    let lt : i < length before = omega (arith, c.loop-position-test.true) in
    rows_step f rows before c.loop-position.truths.items _ i c.in_ok-holds_too.field-0 c.requires lt c.loop-position.invariant
    (c.in_ok-holds_too.ensures ∙ ap (λ r. get_or before i false && f r) c.row-row.ensures) c.in_ok-push.ensures.items

pub returns : goal.returns
returns c =
    let f : Row → Bool = one_holds c.args.tests.now in
    c.loop-position.invariant ∙ rows_end f c.args.rows.now c.args.before.now c.loop-position.position c.requires (omega (arith, c.loop-position-test.false))
