use Rattle.std.proofs.Common.{◌≡◌, ◌∙◌, ◌+◌, List, ◌∷◌, drop, sym, ap, subst}
use Rattle.std.proofs.lemmas.List.{drop_more}
use Rattle.hq_request_tree.specs.declared.field.KeyedAggPart.{KeyedAggPart}
use Rattle.hq_request_tree.specs.declared.field.KeyedAskField.{KeyedAskField}
use Rattle.hq_translation.specs.Correct.{AreFew, AreFewParts}
use Rattle.hq_compile_tables.specs.Contexts.{context_schema}
use Rattle.hq_compile.specs.Fields.{fields_view, parts_view}
use Rattle.hq_compile.proofs.counts.+counts.Goals as goal

-- a field that is counted stands first in what was left
pub count_fields-loop-keyed-preserved : goal.count_fields-loop-keyed-preserved
count_fields-loop-keyed-preserved t c =
    let items = c.deref-keyed-items.result.now in
    let i = c.loop-keyed.keyed-index in
    let k = c.keyed-item.result in
    let here : drop i items ≡ k ∷ drop (i + 1) items = drop_more items i k c.loop-keyed-test.true ∙ ap (λ (x : KeyedAskField). x ∷ drop (i + 1) items) (sym c.keyed-item.is) in
    λ rest. c.loop-keyed.invariant (subst (λ (ks : List KeyedAskField). AreFew (fields_view ks) (context_schema c.args.context.now) c.args.t) (sym here) (c.in_ok-count_keyed.ensures, rest))

-- the same of a part
pub count_parts-loop-keyed-preserved : goal.count_parts-loop-keyed-preserved
count_parts-loop-keyed-preserved t c =
    let items = c.deref-keyed-items.result.now in
    let i = c.loop-keyed.keyed-index in
    let k = c.keyed-item.result in
    let here : drop i items ≡ k ∷ drop (i + 1) items = drop_more items i k c.loop-keyed-test.true ∙ ap (λ (x : KeyedAggPart). x ∷ drop (i + 1) items) (sym c.keyed-item.is) in
    λ rest. c.loop-keyed.invariant (subst (λ (ks : List KeyedAggPart). AreFewParts (parts_view ks) (context_schema c.args.context.now) c.args.u) (sym here) (c.in_ok-count_keyed_part.ensures, rest))
