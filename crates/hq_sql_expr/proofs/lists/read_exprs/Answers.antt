use Rattle.std.proofs.Common.{◌≡◌, ◌+◌, ◌++◌, ◌∷◌, [], length, map, sym}
use Rattle.std.proofs.lemmas.List.{map_push}
use Rattle.std.proofs.lemmas.Result.{err_from_is_err_and}
use Rattle.hq_sql_tree.specs.declared.word.Word.TheVariants as word
use Rattle.hq_sql_tree.specs.View.{expr_view}
use Rattle.hq_sql_expr.specs.Reading.{expr_at, all_many}
use Rattle.hq_sql_expr.proofs.Many.{goes_on, fails, finishes, ends, refuses_more}
use Rattle.hq_sql_expr.proofs.lists.read_exprs.Goals as goal

pub returns-in_err-expr : goal.returns-in_err-expr
returns-in_err-expr c =
    let l = c.loop in
    let item = expr_at c.args.depth in
    let p = err_from_is_err_and c.from_residual.result c.from_residual.ensures.1 in
    rw (p.1, p.2)
    (refuses_more c.in_err-expr.field-0.0 _ _ c.in_err-expr.ensures
    (fails item word.Comma (map expr_view l.found.items) (length c.args.bytes.now + 1) l.counter l.rest.now
    (all_many item word.Comma c.args.bytes.now) c.loop-test.true l.invariant))

pub returns-in-None : goal.returns-in-None
returns-in-None c =
    let l = c.loop in
    let item = expr_at c.args.depth in
    let e : map expr_view c.push.new.self.items ≡ map expr_view l.found.items ++ expr_view c.in_ok-expr.expr ∷ [] = rw c.in_ok-push.ensures.items (map_push _ l.found.items c.in_ok-expr.expr) in
    rw e
    (finishes item word.Comma (map expr_view l.found.items) (length c.args.bytes.now + 1) l.counter l.rest.now
    (all_many item word.Comma c.args.bytes.now) c.loop-test.true l.invariant _ _ c.in_ok-expr.ensures (sym c.in-None.ensures))

pub loop-preserved : goal.loop-preserved
loop-preserved c =
    let l = c.loop in
    let item = expr_at c.args.depth in
    let e : map expr_view c.push.new.self.items ≡ map expr_view l.found.items ++ expr_view c.in_ok-expr.expr ∷ [] = rw c.in_ok-push.ensures.items (map_push _ l.found.items c.in_ok-expr.expr) in
    rw e
    (goes_on item word.Comma (map expr_view l.found.items) (length c.args.bytes.now + 1) l.counter l.rest.now
    (all_many item word.Comma c.args.bytes.now) c.loop-test.true l.invariant _ _ c.in-Some.next.now c.in_ok-expr.ensures
    (sym c.in-Some.ensures))

pub returns : goal.returns
returns c =
    let l = c.loop in
    let item = expr_at c.args.depth in
    ends item word.Comma (map expr_view l.found.items) (length c.args.bytes.now + 1) l.counter l.rest.now (all_many item word.Comma c.args.bytes.now) c.loop-test.false l.invariant
