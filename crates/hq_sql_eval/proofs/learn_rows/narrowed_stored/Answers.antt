use Rattle.std.proofs.Common.{◌∙◌, map, ap, subst}
use Rattle.hq_model.specs.declared.table.Column.{Column}
use Rattle.hq_sql_access.specs.Lent.{rows_lent}
use Rattle.hq_sql_access.specs.View.{world_of}
use Rattle.hq_sql_tree.specs.View.{pred_view}
use Rattle.std.specs.Prelude.{List}
use Rattle.hq_sql_eval.specs.Narrowed.{narrowed}
use Rattle.hq_sql_constants.specs.RowTests.{AreTests, one_holds}
use Rattle.hq_sql_eval.proofs.RowTests.{tested_rows}
use Rattle.hq_sql_eval.proofs.learn_rows.narrowed_stored.Goals as goal

pub returns : goal.returns
returns c =
    let w = world_of c.args.world.now in
    let stored = c.args.stored.now in
    let p = pred_view c.args.pred.now in
    let rows = c.args.rows.now in
    let before = c.args.before.now in
    let ts = c.in-Some.tests.items in
    let found : AreTests w c.as_slice-columns.result.now c.args.alias.now p ts = rw c.in-Some.is at c.in_ok-tests.ensures in
    let are : AreTests w stored.table.now.columns c.args.alias.now p ts =
    subst (λ (cs : List Column). AreTests w cs c.args.alias.now p ts) c.as_slice-columns.ensures found in
    let truths = c.in_ok-truths.ensures ∙ ap (λ xs. narrowed before (map (one_holds xs) rows)) c.as_slice-list.ensures.value in
    tested_rows w p stored.table.now.columns c.args.alias.now ts rows (rows_lent stored.rows) before c.in_ok-truths.truths.items
    are c.requires.lent truths
