use Rattle.std.proofs.Common.{◌≡◌, ◌∙◌, ◌+◌, ◌<◌, ◌&&◌, [], Bool, false, map, take, length, get_or, sym, ap, subst, arith}
use Rattle.hq_sql_tree.specs.Meaning.{NamedRow, nothing, with_alias}
use Rattle.hq_sql_eval.specs.Narrowed.{narrowed}
use Rattle.hq_sql_access.specs.KeySets.{keeps_key}
use Rattle.hq_sql_access.specs.View.{source_view, row_view}
use Rattle.hq_sql_access.proofs.RowsIn.{row_in_is}
use Rattle.hq_sql_eval.proofs.Learned.{narrowed_step, narrowed_end}
use Rattle.hq_sql_eval.proofs.learn_rows.narrowed_keyed.Goals as goal

pub loop-position-preserved : goal.loop-position-preserved
loop-position-preserved c =
    let rows = source_view c.args.source in
    let before = c.args.before.now in
    let f : NamedRow → Bool = λ row. keeps_key c.args.set.now (with_alias nothing c.args.alias.now row) in
    let i = c.loop-position.position in
    let lt : i < length before = omega (arith, c.loop-position-test.true) in
    let within : i < length rows = omega (arith, lt, c.requires.long) in
    let row : row_view c.row_at.result ≡ get_or rows i [] = c.row_at.ensures ∙ sym (row_in_is c.args.source i within) in
    let told : c.in-Some.truth ≡ (get_or before i false && f (row_view c.row_at.result)) = rw c.in-Some.is at c.in_ok-truth.ensures in
    subst (λ l. l ≡ narrowed (take (i + 1) before) (take (i + 1) (map f rows))) (sym c.in_ok-push-in-Some.ensures.items)
    (narrowed_step f rows before c.loop-position.truths.items i c.in-Some.truth c.requires.long lt c.loop-position.invariant (told ∙ ap (λ r. get_or before i false && f r) row))

pub returns : goal.returns
returns c =
    let rows = source_view c.args.source in
    let f : NamedRow → Bool = λ row. keeps_key c.args.set.now (with_alias nothing c.args.alias.now row) in
    c.loop-position.invariant ∙ narrowed_end f rows c.args.before.now c.loop-position.position c.requires.long (omega (arith, c.loop-position-test.false))
