use Rattle.std.proofs.Common.{◌∙◌, ℕ, ◌+◌, ◌++◌, List, [], ◌∷◌, map, drop, refl, sym, ap}
use Rattle.std.proofs.lemmas.Result.{IfOk-weaker, on_ok_weaker}
use Rattle.hq_request_tree.specs.Arguments.{arguments_view}
use Rattle.hq_request_tree.specs.Fields.{FieldTree, field_view, keyed_field_view, keyed_part_view}
use Rattle.hq_request_tree.specs.declared.field.KeyedAggPart.{KeyedAggPart}
use Rattle.hq_request_tree.specs.declared.field.KeyedAskField.{KeyedAskField}
use Rattle.hq_model.specs.Schema.{table}
use Rattle.hq_sql_tree.specs.Tree.{JoinTree, PairTree}
use Rattle.hq_sql_tree.specs.View.{pair_view, join_view}
use Rattle.hq_sql_tree.specs.declared.expr.ExprPair.{ExprPair}
use Rattle.hq_sql_tree.specs.declared.select.Join.{Join}
use Rattle.hq_translation.specs.Fields.{field_value, field_numbers, fields_numbers, field_joins, fields_values, fields_joins, part_value, part_numbers, parts_numbers, parts_values, part_joins, parts_joins}
use Rattle.hq_compile_tables.specs.Contexts.{context_schema, context_granted}
use Rattle.hq_compile_tables.specs.Shown.{look_in}
use Rattle.hq_compile_tables.specs.declared.shown.MaskPlace.{MaskPlace}
use Rattle.hq_compile_lists.specs.Starts.{start_origin, start_table, start_tie}
use Rattle.hq_compile_tables.proofs.Loops.{rest-more, count-more}
use Rattle.hq_compile.proofs.Views.{list_seen}
use Rattle.hq_compile.proofs.Joins.{first_of, object_of, key_of, list_of, object_numbers, key_numbers, list_numbers_of}
use Rattle.hq_compile.specs.Fields.{fields_view, parts_view}
use Rattle.hq_compile.proofs.fields.+fields.Goals as goal

-- the joins of fields at a first row stand behind those of its masks
pub first_join-returns-clause-join : goal.first_join-returns-clause-join
first_join-returns-clause-join t c =
    let s = context_schema c.args.context.now in
    let g = context_granted c.args.context.now in
    let fs = fields_view c.args.fields.now.items in
    let first = c.args.first in
    let look = λ (places : List MaskPlace). look_in places (table s first.table).columns first.number in
    let m = c.args.next.now in
    let pairs = c.in_ok-push_fields.ensures.pairs ∙ ap (λ (ps : List ExprPair). map pair_view ps ++ fields_values fs s g (look c.as_slice-places.result.now) first.table m) c.new.ensures.items
    ∙ ap (λ (places : List MaskPlace). fields_values fs s g (look places) first.table m) c.as_slice-places.ensures in
    IfOk-weaker c.one_join.result _ _
    (λ join is. first_of s g fs first.table first.number m (look first.masks.places) _ _ _ _ _ _ (join_view join) is c.in_ok-select.ensures
    c.object-value.ensures pairs c.in_ok-push_fields.ensures.joins)
    c.one_join.ensures

-- the object behind a relationship, with the columns that its fields use
pub object_join-returns-clause-join : goal.object_join-returns-clause-join
object_join-returns-clause-join t c =
    let s = context_schema c.args.context.now in
    let g = context_granted c.args.context.now in
    let first = c.in_ok-first.first in
    let is_first = c.in_ok-first.ensures in
    IfOk-weaker c.first_join.result _ _
    (λ join is. object_of s g (fields_view c.args.fields.now.items) c.args.t c.args.p c.args.r c.args.next.now first.table first.number
    c.remote_row.new.next c.as_slice.result.now first.masks.places _ _ (join_view join)
    is is_first.table is_first.number is_first.numbers is_first.looks is_first.joins is_first.members (c.as_slice.ensures ∙ c.in_ok-used.ensures))
    c.first_join.ensures.join

pub object_join-returns-clause-numbers : goal.object_join-returns-clause-numbers
object_join-returns-clause-numbers t c =
    let s = context_schema c.args.context.now in
    let g = context_granted c.args.context.now in
    let first = c.in_ok-first.first in
    let is_first = c.in_ok-first.ensures in
    on_ok_weaker c.first_join.result
    (λ after. object_numbers s g (fields_view c.args.fields.now.items) c.args.t c.args.r c.args.next.now first.table c.remote_row.new.next _ c.as_slice.result.now
    after is_first.numbers is_first.table (c.as_slice.ensures ∙ c.in_ok-used.ensures))
    c.first_join.ensures.numbers

-- the same of a look-up by key
pub key_join-returns-clause-join : goal.key_join-returns-clause-join
key_join-returns-clause-join t c =
    let s = context_schema c.args.context.now in
    let g = context_granted c.args.context.now in
    let first = c.in_ok-first.first in
    let is_first = c.in_ok-first.ensures in
    IfOk-weaker c.first_join.result _ _
    (λ join is. key_of s g (fields_view c.args.fields.now.items) 0 0 c.args.table c.args.next.now first.table first.number
    c.key_row.new.next c.args.key.now c.as_slice.result.now first.masks.places _ _ (join_view join)
    is is_first.table is_first.number is_first.numbers is_first.looks is_first.joins is_first.members (c.as_slice.ensures ∙ c.in_ok-used.ensures))
    c.first_join.ensures.join

pub key_join-returns-clause-numbers : goal.key_join-returns-clause-numbers
key_join-returns-clause-numbers t c =
    let s = context_schema c.args.context.now in
    let g = context_granted c.args.context.now in
    let first = c.in_ok-first.first in
    let is_first = c.in_ok-first.ensures in
    on_ok_weaker c.first_join.result
    (λ after. key_numbers s g (fields_view c.args.fields.now.items) 0 c.args.table c.args.next.now first.table c.key_row.new.next _ c.args.key.now c.as_slice.result.now
    after is_first.numbers is_first.table (c.as_slice.ensures ∙ c.in_ok-used.ensures))
    c.first_join.ensures.numbers

-- the join of a list is put together from its parts
pub list_join-returns-clause-join : goal.list_join-returns-clause-join
list_join-returns-clause-join t c =
    let s = context_schema c.args.context.now in
    let g = context_granted c.args.context.now in
    let l = c.args.start.now in
    let a = arguments_view l.args.now in
    let fs = fields_view c.args.fields.now.items in
    let u = c.list_table-table.result in
    let n = c.in_ok-n.n in
    let m = c.list_body.new.next in
    let cs = c.as_slice-2.result.now in
    let body = c.in_ok-body.ensures.body in
    let look = λ (places : List MaskPlace). look_in places (table s u).columns n in
    let shown = ap look c.as_slice-places.ensures ∙ body.looks in
    let pairs = c.in_ok-push_fields.ensures.pairs ∙ ap (λ (ps : List ExprPair). map pair_view ps ++ fields_values fs s g (look c.as_slice-places.result.now) u m) c.empty_row-row.ensures.pairs in
    let joins = c.in_ok-push_fields.ensures.joins ∙ ap (λ (js : List Join). map join_view js ++ fields_joins fs s g u n m) c.empty_row-row.ensures.joins in
    IfOk-weaker c.one_join.result _ _
    (λ join is. list_of s g fs (start_origin l) a l.row_table l.row_number c.args.next.now u n m c.as_slice.result.now cs (look c.as_slice-places.result.now) _ _ (start_tie s l n) _ (join_view join)
    is (c.in_ok-select.ensures cs (start_tie s l n) body) pairs joins shown c.in_ok-body.ensures.numbers refl (c.as_slice-2.ensures ∙ c.in_ok-used.ensures)
    (c.as_slice.ensures ∙ c.in_ok-outs.ensures) c.list_table-table.ensures c.in_ok-n.ensures.taken)
    c.one_join.ensures

pub list_join-returns-clause-numbers : goal.list_join-returns-clause-numbers
list_join-returns-clause-numbers t c =
    let s = context_schema c.args.context.now in
    let g = context_granted c.args.context.now in
    let l = c.args.start.now in
    IfOk-weaker c.one_join.result _ _
    (λ join is. list_numbers_of s g (fields_view c.args.fields.now.items) (start_origin l) (arguments_view l.args.now) l.row_table
    l.row_number c.args.next.now c.list_table-table.result c.in_ok-n.n c.list_body.new.next _
    c.as_slice.result.now c.as_slice-2.result.now c.in_ok-push_fields.ensures.numbers c.in_ok-body.ensures.numbers (c.as_slice-2.ensures ∙ c.in_ok-used.ensures)
    (c.as_slice.ensures ∙ c.in_ok-outs.ensures) c.list_table-table.ensures c.in_ok-n.ensures.taken)
    c.one_join.ensures

-- the joins of a list, and the numbers that they take, are those of its field
pub push_joins-returns-in_ok-join-in-List-clause-joins : goal.push_joins-returns-in_ok-join-in-List-clause-joins
push_joins-returns-in_ok-join-in-List-clause-joins t c =
    let s = context_schema c.args.context.now in
    let g = context_granted c.args.context.now in
    let n = c.args.next.now in
    let l = c.in-List in
    let joins : List JoinTree = map join_view c.args.joins.now.items in
    let seen = ap field_view l.is ∙ list_seen l.table l.rel l.args l.fields in
    on_ok_weaker c.push_join-in-List.result
    (λ is. is ∙ ap (λ (js : List JoinTree). joins ++ js) (c.in_ok-join-in-List.ensures.join ∙ ap (λ (f : FieldTree). field_joins f s g c.args.t c.args.p n) (sym seen)))
    c.push_join-in-List.ensures

pub push_joins-returns-in_ok-join-in-List-clause-numbers : goal.push_joins-returns-in_ok-join-in-List-clause-numbers
push_joins-returns-in_ok-join-in-List-clause-numbers t c =
    let s = context_schema c.args.context.now in
    let g = context_granted c.args.context.now in
    let n = c.args.next.now in
    let l = c.in-List in
    let seen = ap field_view l.is ∙ list_seen l.table l.rel l.args l.fields in
    on_ok_weaker c.push_join-in-List.result (λ is. c.in_ok-join-in-List.ensures.numbers ∙ ap (λ (f : FieldTree). n + field_numbers f s g c.args.t) (sym seen)) c.push_join-in-List.ensures

-- what a field adds is what stood first in what was left
pub push_fields-loop-keyed-preserved : goal.push_fields-loop-keyed-preserved
push_fields-loop-keyed-preserved t c =
    let s = context_schema c.args.context.now in
    let g = context_granted c.args.context.now in
    let u = c.args.t in
    let p = c.args.p in
    let look = look_in c.args.places.now (table s u).columns p in
    let items = c.deref-keyed-items.result.now in
    let i = c.loop-keyed.keyed-index in
    let k = c.keyed-item.result in
    let f = keyed_field_view k in
    let rest = fields_view (drop (i + 1) items) in
    let old = c.loop-keyed.row in
    let new = c.push_field.new.row in
    let n = c.loop-keyed.next in
    let m = c.push_field.new.next in
    let pair : PairTree = record { name = f.0; value = field_value f.1 (table s u).columns look n } in
    let behind = sym c.in_ok-push_field.ensures.numbers in
    record {
      pairs = rest-more (λ (ks : List KeyedAskField). fields_values (fields_view ks) s g look u n) (λ (ks : List KeyedAskField). fields_values (fields_view ks) s g look u m) items i k
          (map pair_view old.pairs.items) (map pair_view new.pairs.items) (pair ∷ []) _ c.loop-keyed.invariant.pairs c.loop-keyed-test.true c.keyed-item.is
          (ap (λ (j : ℕ). pair ∷ fields_values rest s g look u j) behind) c.in_ok-push_field.ensures.pairs;
      joins = rest-more (λ (ks : List KeyedAskField). fields_joins (fields_view ks) s g u p n) (λ (ks : List KeyedAskField). fields_joins (fields_view ks) s g u p m) items i k
          (map join_view old.joins.items) (map join_view new.joins.items) (field_joins f.1 s g u p n) _ c.loop-keyed.invariant.joins c.loop-keyed-test.true c.keyed-item.is
          (ap (λ (j : ℕ). field_joins f.1 s g u p n ++ fields_joins rest s g u p j) behind) c.in_ok-push_field.ensures.joins;
      numbers =
          count-more (λ (ks : List KeyedAskField). fields_numbers (fields_view ks) s g u) items i k n m (field_numbers f.1 s g u) _
          c.loop-keyed.invariant.numbers c.loop-keyed-test.true c.keyed-item.is
          refl c.in_ok-push_field.ensures.numbers;
    }

-- the same of a part
pub push_parts-loop-keyed-preserved : goal.push_parts-loop-keyed-preserved
push_parts-loop-keyed-preserved t c =
    let s = context_schema c.args.context.now in
    let g = context_granted c.args.context.now in
    let l = c.args.start.now in
    let o = start_origin l in
    let u = start_table s l in
    let a = arguments_view l.args.now in
    let items = c.deref-keyed-items.result.now in
    let i = c.loop-keyed.keyed-index in
    let k = c.keyed-item.result in
    let q = keyed_part_view k in
    let rest = parts_view (drop (i + 1) items) in
    let old = c.loop-keyed.row in
    let new = c.push_part.new.row in
    let n = c.loop-keyed.next in
    let m = c.push_part.new.next in
    let pair : PairTree = record { name = q.0; value = part_value q.1 n } in
    let behind = sym c.in_ok-push_part.ensures.numbers in
    record {
      pairs = rest-more (λ (ks : List KeyedAggPart). parts_values (parts_view ks) s g u a n) (λ (ks : List KeyedAggPart). parts_values (parts_view ks) s g u a m) items i k
          (map pair_view old.pairs.items) (map pair_view new.pairs.items) (pair ∷ []) _ c.loop-keyed.invariant.pairs c.loop-keyed-test.true c.keyed-item.is
          (ap (λ (j : ℕ). pair ∷ parts_values rest s g u a j) behind) c.in_ok-push_part.ensures.pairs;
      joins =
          rest-more (λ (ks : List KeyedAggPart). parts_joins (parts_view ks) s g o l.row_table l.row_number a n)
          (λ (ks : List KeyedAggPart). parts_joins (parts_view ks) s g o l.row_table l.row_number a m) items i k
          (map join_view old.joins.items) (map join_view new.joins.items) (part_joins q.1 s g o l.row_table l.row_number a n) _ c.loop-keyed.invariant.joins c.loop-keyed-test.true c.keyed-item.is
          (ap (λ (j : ℕ). part_joins q.1 s g o l.row_table l.row_number a n ++ parts_joins rest s g o l.row_table l.row_number a j) behind) c.in_ok-push_part.ensures.joins;
      numbers =
          count-more (λ (ks : List KeyedAggPart). parts_numbers (parts_view ks) s g u a) items i k n m (part_numbers q.1 s g u a) _
          c.loop-keyed.invariant.numbers c.loop-keyed-test.true c.keyed-item.is
          refl c.in_ok-push_part.ensures.numbers;
    }
