use Rattle.std.proofs.Common.{◌≡◌, ◌+◌, ◌++◌, ◌∷◌, [], length, map, sym}
use Rattle.std.proofs.lemmas.List.{map_push}
use Rattle.std.proofs.lemmas.Result.{err_from_is_err_and}
use Rattle.hq_sql_tree.specs.declared.word.Word.TheVariants as word
use Rattle.hq_sql_tree.specs.View.{out_view}
use Rattle.hq_sql_expr.specs.Reading.{out_with, expr_at, all_many}
use Rattle.hq_sql_expr.proofs.Many.{goes_on, fails, finishes, ends, refuses_more}
use Rattle.hq_sql_expr.proofs.lists.read_outs.Goals as goal

pub returns-in_err-output : goal.returns-in_err-output
returns-in_err-output c =
    let l = c.loop in
    let item = out_with (expr_at c.args.depth) in
    let p = err_from_is_err_and c.from_residual.result c.from_residual.ensures.1 in
    rw (p.1, p.2)
    (refuses_more c.in_err-output.field-0.0 _ _ c.in_err-output.ensures
    (fails item word.Comma (map out_view l.found.items) (length c.args.bytes.now + 1) l.counter l.rest.now
    (all_many item word.Comma c.args.bytes.now) c.loop-test.true l.invariant))

pub returns-in-None : goal.returns-in-None
returns-in-None c =
    let l = c.loop in
    let item = out_with (expr_at c.args.depth) in
    let e : map out_view c.push.new.self.items ≡ map out_view l.found.items ++ out_view c.in_ok-output.output ∷ [] = rw c.in_ok-push.ensures.items (map_push _ l.found.items c.in_ok-output.output) in
    rw e
    (finishes item word.Comma (map out_view l.found.items) (length c.args.bytes.now + 1) l.counter l.rest.now
    (all_many item word.Comma c.args.bytes.now) c.loop-test.true l.invariant _ _ c.in_ok-output.ensures (sym c.in-None.ensures))

pub loop-preserved : goal.loop-preserved
loop-preserved c =
    let l = c.loop in
    let item = out_with (expr_at c.args.depth) in
    let e : map out_view c.push.new.self.items ≡ map out_view l.found.items ++ out_view c.in_ok-output.output ∷ [] = rw c.in_ok-push.ensures.items (map_push _ l.found.items c.in_ok-output.output) in
    rw e
    (goes_on item word.Comma (map out_view l.found.items) (length c.args.bytes.now + 1) l.counter l.rest.now
    (all_many item word.Comma c.args.bytes.now) c.loop-test.true l.invariant _ _ c.in-Some.next.now c.in_ok-output.ensures
    (sym c.in-Some.ensures))

pub returns : goal.returns
returns c =
    let l = c.loop in
    let item = out_with (expr_at c.args.depth) in
    ends item word.Comma (map out_view l.found.items) (length c.args.bytes.now + 1) l.counter l.rest.now (all_many item word.Comma c.args.bytes.now) c.loop-test.false l.invariant
