use Rattle.std.proofs.Common.{◌≡◌, ◌∙◌, ◌+◌, ◌<◌, ◌&&◌, [], Bool, false, map, take, length, get_or, sym, ap, subst, arith}
use Rattle.hq_sql_conjuncts.specs.Split.{kept_one}
use Rattle.hq_sql_tree.specs.Meaning.{NamedRow, nothing, with_alias}
use Rattle.hq_sql_tree.specs.View.{pred_view}
use Rattle.hq_sql_eval.specs.Narrowed.{narrowed}
use Rattle.hq_sql_access.specs.View.{source_view, row_view, world_of}
use Rattle.hq_sql_access.proofs.RowsIn.{row_in_is}
use Rattle.hq_sql_eval.proofs.Learned.{narrowed_step, narrowed_end}
use Rattle.hq_sql_eval.proofs.learn_rows.narrowed_each.Goals as goal

pub loop-position-preserved : goal.loop-position-preserved
loop-position-preserved c =
    let w = world_of c.args.world.now in
    let rows = source_view c.args.source in
    let before = c.args.before.now in
    let f : NamedRow → Bool = λ row. kept_one (pred_view c.args.pred.now) w (with_alias nothing c.args.alias.now row) in
    let i = c.loop-position.position in
    let lt : i < length before = omega (arith, c.loop-position-test.true) in
    let within : i < length rows = omega (arith, lt, c.requires) in
    let row : row_view c.row_at.result ≡ get_or rows i [] = c.row_at.ensures ∙ sym (row_in_is c.args.source i within) in
    subst (λ l. l ≡ narrowed (take (i + 1) before) (take (i + 1) (map f rows))) (sym c.in_ok-push.ensures.items)
    (narrowed_step f rows before c.loop-position.truths.items i c.in_ok-holds.field-0 c.requires lt c.loop-position.invariant (c.in_ok-holds.ensures ∙ ap (λ r. get_or before i false && f r) row))

pub returns : goal.returns
returns c =
    let w = world_of c.args.world.now in
    let rows = source_view c.args.source in
    let f : NamedRow → Bool = λ row. kept_one (pred_view c.args.pred.now) w (with_alias nothing c.args.alias.now row) in
    c.loop-position.invariant ∙ narrowed_end f rows c.args.before.now c.loop-position.position c.requires (omega (arith, c.loop-position-test.false))
