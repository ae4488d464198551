use Rattle.std.proofs.Common.{◌∙◌, ℕ, ◌+◌, List, [], ◌∷◌, ◌++◌, map, drop, refl, sym, ap}
use Rattle.std.proofs.lemmas.List.{append-nil, at_drop_all}
use Rattle.hq_model.specs.Schema.{table}
use Rattle.hq_sql_tree.specs.View.{join_view, order_view, out_view}
use Rattle.hq_translation.specs.Sorts.{sort_numbers, sort_joins, sorts_numbers, sorts_joins, orders, key_outputs}
use Rattle.hq_compile_tables.specs.Contexts.{context_schema, context_granted}
use Rattle.hq_compile_tables.specs.Shown.{look_in}
use Rattle.hq_compile_tables.proofs.Loops.{rest-more, count-more}
use Rattle.hq_compile_lists.specs.declared.sorts.RowSort.{RowSort}
use Rattle.hq_compile_lists.specs.RowSorts.{row_sort_view}
use Rattle.hq_compile_lists.proofs.order.sort_parts.Goals as goal

-- a sort key is put in, and the loop goes on behind it and its numbers
pub loop-i-preserved : goal.loop-i-preserved
loop-i-preserved c =
    let s = context_schema c.args.context.now in
    let g = context_granted c.args.context.now in
    let t = c.args.t in
    let p = c.args.p in
    let look = look_in c.args.places.now (table s t).columns p in
    let sorts = c.args.sorts.now in
    let i = c.loop-i.i in
    let sort = c.index-sorts-i.result in
    let rest = map row_sort_view (drop (i + 1) sorts) in
    let next = c.loop-i.next in
    let after = c.push_sort.new.next in
    let old = c.loop-i.parts in
    let new = c.push_sort.new.parts in
    let is = c.loop-i.invariant in
    let adds = c.in_ok-push_sort.ensures in
    let joins = sort_joins sort.through s g t p next sort.column in
    let order = orders (row_sort_view sort ∷ []) s g look t p next in
    let output = key_outputs (row_sort_view sort ∷ []) s g look t p next i in
    record {
      joins =
          rest-more (λ (ks : List RowSort). sorts_joins (map row_sort_view ks) s g t p next)
          (λ (ks : List RowSort). sorts_joins (map row_sort_view ks) s g t p after) sorts i sort (map join_view old.joins.items)
          (map join_view new.joins.items) joins _ is.joins c.loop-i-test.true c.index-sorts-i.is
          (ap (λ (n : ℕ). joins ++ sorts_joins rest s g t p n) (sym adds.numbers)) adds.joins;
      orders =
          rest-more (λ (ks : List RowSort). orders (map row_sort_view ks) s g look t p next)
          (λ (ks : List RowSort). orders (map row_sort_view ks) s g look t p after) sorts i sort (map order_view old.orders.items)
          (map order_view new.orders.items) order _ is.orders c.loop-i-test.true c.index-sorts-i.is
          (ap (λ (n : ℕ). order ++ orders rest s g look t p n) (sym adds.numbers)) adds.orders;
      outputs =
          rest-more (λ (ks : List RowSort). key_outputs (map row_sort_view ks) s g look t p next i)
          (λ (ks : List RowSort). key_outputs (map row_sort_view ks) s g look t p after (i + 1)) sorts i sort
          (map out_view old.outputs.items) (map out_view new.outputs.items) output _ is.outputs c.loop-i-test.true c.index-sorts-i.is
          (ap (λ (n : ℕ). output ++ key_outputs rest s g look t p n (i + 1)) (sym adds.numbers)) adds.outputs;
      numbers =
          count-more (λ (ks : List RowSort). sorts_numbers (map row_sort_view ks) s g t) sorts i sort next after
          (sort_numbers sort.through s g t sort.column) _ is.numbers c.loop-i-test.true c.index-sorts-i.is refl adds.numbers;
    }

-- behind the last sort key nothing is left
pub returns-clause-joins : goal.returns-clause-joins
returns-clause-joins c =
    let s = context_schema c.args.context.now in
    let g = context_granted c.args.context.now in
    let done = map join_view c.loop-i.parts.joins.items in
    sym (append-nil done) ∙ sym (at_drop_all (λ (ks : List RowSort). done ++ sorts_joins (map row_sort_view ks) s g c.args.t c.args.p c.loop-i.next) c.args.sorts.now c.loop-i.i c.loop-i-test.false)
    ∙ c.loop-i.invariant.joins

pub returns-clause-orders : goal.returns-clause-orders
returns-clause-orders c =
    let s = context_schema c.args.context.now in
    let g = context_granted c.args.context.now in
    let look = look_in c.args.places.now (table s c.args.t).columns c.args.p in
    let done = map order_view c.loop-i.parts.orders.items in
    sym (append-nil done) ∙ sym (at_drop_all (λ (ks : List RowSort). done ++ orders (map row_sort_view ks) s g look c.args.t c.args.p c.loop-i.next) c.args.sorts.now c.loop-i.i c.loop-i-test.false)
    ∙ c.loop-i.invariant.orders

pub returns-clause-outputs : goal.returns-clause-outputs
returns-clause-outputs c =
    let s = context_schema c.args.context.now in
    let g = context_granted c.args.context.now in
    let look = look_in c.args.places.now (table s c.args.t).columns c.args.p in
    let done = map out_view c.loop-i.parts.outputs.items in
    sym (append-nil done)
    ∙ sym
    (at_drop_all (λ (ks : List RowSort). done ++ key_outputs (map row_sort_view ks) s g look c.args.t c.args.p c.loop-i.next c.loop-i.i)
    c.args.sorts.now c.loop-i.i c.loop-i-test.false)
    ∙ c.loop-i.invariant.outputs
