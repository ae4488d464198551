use Rattle.std.proofs.Common.{rules, ◌≡◌, ◌∷◌, [], map, sym, ap, subst, arith}
use Rattle.hq_sql_conjuncts.specs.Conjuncts.{all_kept, lent_views}
use Rattle.hq_sql_conjuncts.specs.Split.{IsSplit, kept_one}
use Rattle.hq_sql_conjuncts.specs.Weight.{pred_weight}
use Rattle.hq_sql_tree.specs.declared.select.From.{the_lemmas as from_lemmas}
use Rattle.hq_sql_tree.specs.Meaning.{nothing, with_alias}
use Rattle.hq_sql_tree.specs.Tree as tree
use Rattle.hq_sql_tree.specs.View.{from_view, pred_view}
use Rattle.hq_sql_access.specs.declared.pinned.KnownRows.{KnownRows}
use Rattle.hq_sql_access.specs.Sources.{alias_in}
use Rattle.hq_sql_access.specs.View.{source_view, world_of}
use Rattle.hq_sql_eval.proofs.Learned.{learned_is, of_table}
use Rattle.hq_sql_eval.proofs.learn_rows.learned.Goals as goal

pub returns : goal.returns
returns c =
    let w = world_of c.args.world.now in
    let F = from_view c.args.from.now in
    let p = pred_view c.args.filter.now in
    let m = pred_weight c.args.filter.now in
    let a = c.in-Table.alias in
    let rows = source_view c.source_of-source.result in
    let closed = c.split.new.closed.items in
    let rest = c.split.new.rest.items in
    let k : KnownRows = record { from = c.args.from; filter = c.args.filter; truths = c.in_ok-truths.truths; rest = c.split.new.rest } in
    let begun : IsSplit (a ∷ []) (kept_one p) m [] [] closed rest =
    subst (λ l. IsSplit (a ∷ []) (kept_one p) m l [] closed rest) c.new-closed.ensures.items
    (subst (λ l. IsSplit (a ∷ []) (kept_one p) m c.new-closed.result.items l closed rest) c.new-rest.ensures.items c.in_ok-split.ensures) in
    let truths : c.in_ok-truths.truths.items ≡ map (λ row. all_kept (lent_views closed) w (with_alias nothing a row)) rows =
    subst (λ ps. c.in_ok-truths.truths.items ≡ map (λ row. all_kept (lent_views ps) w (with_alias nothing a row)) rows) c.deref.ensures.value c.in_ok-truths.ensures in
    let at : F ≡ tree.table c.in-Table.schema c.in-Table.table a = search (rules, from_lemmas) in
    let light = begun.lighter in
    record {
      knows = of_table w F c.in-Table.schema c.in-Table.table a [] rows a (tree.filter p) k at c.source_of-source.ensures (sym (ap alias_in at)) (learned_is p w rows a closed m k begun truths);
      lighter = omega (arith, light);
    }
