use Rattle.std.proofs.Common.{◌≡◌, ◌∷◌, [], map, sym, subst}
use Rattle.hq_sql_conjuncts.specs.Conjuncts.{all_kept, lent_views}
use Rattle.hq_sql_conjuncts.specs.Split.{IsSplit, kept_one}
use Rattle.hq_sql_conjuncts.specs.Weight.{pred_weight}
use Rattle.hq_sql_tree.specs.Meaning.{named_row, nothing, with_alias}
use Rattle.hq_sql_tree.specs.View.{pred_view}
use Rattle.hq_sql_access.specs.Lent.{rows_lent}
use Rattle.hq_sql_access.specs.View.{world_of}
use Rattle.hq_sql_scans.specs.ChosenKeys.{KeepsKeys}
use Rattle.hq_sql_scans.specs.Links.{AreLinks}
use Rattle.hq_sql_eval.proofs.Keyed.{keeps_keys}
use Rattle.hq_sql_eval.proofs.learn_keys.keys_over.Goals as goal

pub key_set-requires-clause-keeps : goal.key_set-requires-clause-keeps
key_set-requires-clause-keeps c =
    let w = world_of c.args.world.now in
    let has = pred_view c.args.pred.now in
    let p = pred_view c.args.filter.now in
    let m = pred_weight c.args.filter.now in
    let a = c.args.alias.now in
    let columns = c.args.stored.now.table.now.columns in
    let rows = c.args.rows.now in
    let closed = c.split.new.closed.items in
    let rest = c.split.new.rest.items in
    let own = c.in-Some.links.columns.items in
    let exprs = c.in-Some.links.exprs.items in
    let truths = c.in_ok-truths.truths.items in
    let begun : IsSplit (a ∷ []) (kept_one p) m [] [] closed rest =
    subst (λ l. IsSplit (a ∷ []) (kept_one p) m l [] closed rest) c.new-closed.ensures.items
    (subst (λ l. IsSplit (a ∷ []) (kept_one p) m c.new-closed.result.items l closed rest) c.new-rest.ensures.items c.in_ok-split.ensures) in
    let found : AreLinks c.as_slice.result.now a (lent_views c.deref.result.now) own exprs = rw c.in-Some.is at c.in_ok-links.ensures in
    let links : AreLinks columns a (lent_views rest) own exprs =
    subst (λ cs. AreLinks cs a (lent_views rest) own exprs) c.as_slice.ensures (subst (λ ps. AreLinks c.as_slice.result.now a (lent_views ps) own exprs) c.deref.ensures.value found) in
    let told : truths ≡ map (λ row. all_kept (lent_views closed) w (with_alias nothing a row)) (map (named_row columns) rows) =
    subst (λ rs. truths ≡ map (λ row. all_kept (lent_views closed) w (with_alias nothing a row)) (map (named_row columns) rs)) c.requires.lent
    (subst
    (λ ps. truths
    ≡ map (λ row. all_kept (lent_views ps) w (with_alias nothing a row)) (map (named_row columns) (rows_lent c.args.stored.now.rows)))
    c.deref-2.ensures.value c.in_ok-truths.ensures)
    in
    subst (λ ts. KeepsKeys w has rows ts c.deref-4.result.now exprs) (sym c.deref-3.ensures.value)
    (subst (λ cs. KeepsKeys w has rows truths cs exprs) (sym c.deref-4.ensures.value) (keeps_keys w has columns rows a p m closed rest truths own exprs c.requires.filters begun links told))
