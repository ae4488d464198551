use Rattle.std.proofs.Common.{◌∙◌, ap, sym, ◌++◌, ◌+◌, drop, filter, bytes_eq}
use Rattle.hq_base.specs.Lists.{firsts}
use Rattle.hq_base.proofs.Loops.{next_item}
use Rattle.hq_model.proofs.Joining.{is_new, seen_none, seen_more}
use Rattle.hq_model.proofs.Names.{names_equal}
use Rattle.hq_model.proofs.inherited.different_names.Goals as goal

pub loop-name-init : goal.loop-name-init
loop-name-init c =
    let xs = c.as_slice-name-items.result.now in
    ap (λ seen. seen ++ filter (is_new bytes_eq names_equal seen) (firsts bytes_eq xs)) c.new-different.ensures
    ∙ seen_none bytes_eq names_equal (firsts bytes_eq xs) ∙ ap (firsts bytes_eq) c.as_slice-name-items.ensures

-- one more name, where it is not among those before
pub loop-name-preserved : goal.loop-name-preserved
loop-name-preserved c =
    let xs = c.as_slice-name-items.result.now in
    let i = c.loop-name.name-index in
    let x = c.name-item.result in
    let seen = c.loop-name.different in
    sym (ap (λ new. new ++ filter (is_new bytes_eq names_equal new) (firsts bytes_eq (drop (i + 1) xs))) (sym c.in_ok-push_name.ensures))
    ∙ sym (seen_more bytes_eq names_equal seen (drop (i + 1) xs) x)
    ∙ sym (ap (λ ys. seen ++ filter (is_new bytes_eq names_equal seen) (firsts bytes_eq ys)) (next_item xs i x c.loop-name-test.true c.name-item.is))
    ∙ c.loop-name.invariant
