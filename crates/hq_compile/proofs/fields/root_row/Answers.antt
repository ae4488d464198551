use Rattle.std.proofs.Common.{◌≡◌, ◌∙◌, ◌+◌, ◌∷◌, ◌<◌, [], length, drop, map, ap, sym, arith}
use Rattle.std.proofs.lemmas.List.{drop_more}
use Rattle.hq_request_tree.specs.Root.{table_fields}
use Rattle.hq_request_tree.specs.declared.field.KeyedAskField.{KeyedAskField}
use Rattle.hq_sql_tree.specs.View.{pair_view, join_view}
use Rattle.hq_translation.specs.Fields.{fields_numbers, fields_joins}
use Rattle.hq_compile_tables.specs.Contexts.{context_schema, context_granted}
use Rattle.hq_compile.proofs.RootFields.{one_more, root_values, root_numbers, numbers_step, values_step, joins_step}
use Rattle.hq_compile.specs.Fields.{fields_view}
use Rattle.hq_compile.proofs.fields.root_row.Goals as goal

-- what a root field adds is what stood first in what was left
pub loop-keyed-preserved : goal.loop-keyed-preserved
loop-keyed-preserved c =
    let s = context_schema c.args.context.now in
    let g = context_granted c.args.context.now in
    let items = c.deref-keyed-items.result.now in
    let i = c.loop-keyed.keyed-index in
    let k = c.keyed-item.result in
    let more : i < length items = omega (arith, c.loop-keyed-test.true) in
    let here : drop i items ≡ k ∷ drop (i + 1) items = drop_more items i k more ∙ ap (λ (x : KeyedAskField). x ∷ drop (i + 1) items) (sym c.keyed-item.is) in
    let old = c.loop-keyed.row in
    let new = c.push_root.new.row in
    let n = c.loop-keyed.next in
    let m = c.push_root.new.next in
    record {
      pairs =
          one_more (λ ks j. root_values s g c.args.root (table_fields (fields_view ks)) j)
          (λ x j. root_values s g c.args.root (table_fields (fields_view (x ∷ []))) j) (root_numbers s g c.args.root)
          (values_step s g c.args.root) (drop i items) (drop (i + 1) items) k here (map pair_view old.pairs.items) (map pair_view new.pairs.items) _ n m
          c.in_ok-push_root.ensures.pairs c.in_ok-push_root.ensures.numbers c.loop-keyed.invariant.pairs;
      joins =
          one_more (λ ks j. fields_joins (table_fields (fields_view ks)) s g c.args.root 0 j)
          (λ x j. fields_joins (table_fields (fields_view (x ∷ []))) s g c.args.root 0 j) (root_numbers s g c.args.root)
          (joins_step s g c.args.root) (drop i items) (drop (i + 1) items) k here (map join_view old.joins.items) (map join_view new.joins.items) _ n m
          c.in_ok-push_root.ensures.joins c.in_ok-push_root.ensures.numbers c.loop-keyed.invariant.joins;
      numbers = omega (
        arith,
        c.in_ok-push_root.ensures.numbers,
        c.loop-keyed.invariant.numbers,
        numbers_step s g c.args.root k (drop (i + 1) items),
        ap (λ ks. fields_numbers (table_fields (fields_view ks)) s g c.args.root) here,
      );
    }
