use Rattle.std.proofs.Common.{List, ◌∙◌, ◌+◌, ◌++◌, [], ap, append_assoc, drop, map, sym}
use Rattle.hq_base.proofs.Loops.{next_item}
use Rattle.hq_copy_definition.specs.Sources.{sources_in, with_source}
use Rattle.hq_copy_tables.proofs.Fronts.{with_source_front}
use Rattle.hq_copy_tables.specs.Views.{source_view}
use Rattle.hq_model.specs.Meta.{meta_view, tracked_view}
use Rattle.hq_model.specs.declared.meta.Tracked.{Tracked}
use Rattle.hq_copy_tables.proofs.seen.sources.Goals as goal

-- a table of which the role may see something stands behind those so far
pub loop-entry-preserved : goal.loop-entry-preserved
loop-entry-preserved c =
    let items = c.as_slice-entry-items.result.now in
    let i = c.loop-entry.entry-index in
    let k = tracked_view c.entry-item.result in
    let m = meta_view c.args.meta.now in
    let in_order = λ (ks : List Tracked). sources_in c.args.role.now m (map tracked_view ks) in
    let rest = in_order (drop (i + 1) items) in
    let done = map source_view c.loop-entry.all.items in
    ap (λ l. l ++ rest) c.in_ok-push_source.ensures ∙ append_assoc done (with_source k _ []) rest
    ∙ ap (λ l. done ++ l)
    (sym (with_source_front k _ rest) ∙ ap (λ p. with_source k p rest) c.in_ok-perm.ensures
    ∙ ap in_order (sym (next_item items i c.entry-item.result c.loop-entry-test.true c.entry-item.is)))
    ∙ c.loop-entry.invariant
