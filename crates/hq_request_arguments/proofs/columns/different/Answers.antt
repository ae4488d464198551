use Rattle.std.proofs.Common.{◌∙◌, ap, sym, ◌∷◌, ◌++◌, ◌+◌, drop, filter, arith}
use Rattle.std.proofs.lemmas.List.{drop_more}
use Rattle.hq_base.specs.Lists.{firsts}
use Rattle.hq_model.proofs.Firsts.{is_new, seen_none, seen_more}
use Rattle.hq_request_arguments.proofs.Different.{same, one_number}
use Rattle.hq_request_arguments.proofs.columns.different.Goals as goal

pub loop-column-init : goal.loop-column-init
loop-column-init c =
    seen_none same one_number (firsts same c.args.columns.now)
    ∙ ap (λ seen. seen ++ filter (is_new same one_number seen) (firsts same c.args.columns.now)) (sym c.new-different.ensures)

pub loop-column-preserved : goal.loop-column-preserved
loop-column-preserved c =
    let xs = c.args.columns.now in
    let i = c.loop-column.column-index in
    let x = c.column-item.result in
    let seen = c.loop-column.different in
    c.loop-column.invariant
    ∙ ap (λ ys. seen ++ filter (is_new same one_number seen) (firsts same ys)) (drop_more xs i x (omega arith) ∙ ap (λ y. y ∷ drop (i + 1) xs) (sym c.column-item.is))
    ∙ seen_more same one_number seen (drop (i + 1) xs) x
    ∙ ap (λ new. new ++ filter (is_new same one_number new) (firsts same (drop (i + 1) xs))) (sym c.in_ok-push_different.ensures)
