-- The statement opens few parentheses at once.
use Rattle.std.proofs.Common.{◌≡◌, ℕ, ◌+◌, ◌*◌, ◌≤◌, List, [], ◌∷◌, ◌++◌, length, Bool, true, false, cond, filter, Option, Some, None, map, refl, arith}
use Rattle.std.specs.Prelude.{max}
use Rattle.std.proofs.Math.Nat.{max-le, le-max_left, le-max_right}
use Rattle.hq_base.specs.Lists.{Each}
use Rattle.hq_base.specs.declared.aggregate.Aggregate.{Aggregate}
use Rattle.hq_base.specs.declared.value.Ty.{Ty}
use Rattle.hq_base.specs.declared.value.Val.{Val}
use Rattle.hq_base.specs.declared.value.Val.TheVariants as val
use Rattle.hq_model.specs.Bexp.{BexpTree, always, and_of, or_of, not_of, test, through, exists_in, two_columns, BexpTrees, no_bexp, bexp, depth, depth_of_all, operands_of}
use Rattle.hq_model.specs.Permission.{Mask}
use Rattle.hq_model.specs.Schema.{Schema, table, rel}
use Rattle.hq_model.specs.Tests.{arity, is_of_nothing}
use Rattle.hq_model.specs.Selected.{SortKey, ListArguments, ascending, sorts_or, entries, smaller}
use Rattle.hq_model.specs.declared.bexp.Operand.{Operand}
use Rattle.hq_model.specs.declared.bexp.Operand.TheVariants.{Const, Session}
use Rattle.hq_model.specs.declared.meta.Pair.{Pair}
use Rattle.hq_model.specs.declared.meta.Rel.{Rel}
use Rattle.hq_model.specs.declared.table.Column.{Column}
use Rattle.hq_model.specs.declared.test.Arity.{Arity}
use Rattle.hq_model.specs.declared.test.Arity.TheVariants.{Nothing, One, Many}
use Rattle.hq_model.specs.declared.test.Test.{Test}
use Rattle.hq_request_tree.specs.Fields.{Origin, from_table, along, FieldTrees, no_field, field, FieldTree, column, typename, no_queries, object, list, by_key, aggregate, introspect, PartTrees, no_part, part, PartTree, summary, nodes, part_typename}
use Rattle.hq_request_tree.specs.Resolve.{origin_table}
use Rattle.hq_request_tree.specs.declared.aggregate.AggCol.{AggCol}
use Rattle.hq_request_tree.specs.declared.aggregate.AggCol.TheVariants as of
use Rattle.hq_request_tree.specs.declared.aggregate.AggField.{AggField}
use Rattle.hq_request_tree.specs.declared.aggregate.AggField.TheVariants as take
use Rattle.hq_request_tree.specs.declared.aggregate.KeyedAggCol.{KeyedAggCol}
use Rattle.hq_request_tree.specs.declared.aggregate.KeyedAggField.{KeyedAggField}
use Rattle.hq_sql_tree.specs.declared.expr.ColumnForm.{ColumnForm}
use Rattle.hq_sql_tree.specs.Tree as tree
use Rattle.hq_sql_tree.specs.Tree.{ExprTree, PairTree, OrderTree, OutTree, FromTree, JoinTree, JoinTrees, FilterTree, PredTree, preds_of, joins_of, pairs_of, orders_of}
use Rattle.hq_sql_tree.specs.Form.{greatest, arity_parens, expr_depth, pairs_depth, orders_depth, distinct_depth, select_depth, from_depth, joins_depth, filter_depth, pred_depth, preds_depth}
use Rattle.hq_translation.specs.Names.{table_alias, value_name, unit_name}
use Rattle.hq_translation.specs.Looks.{Look, tested_form, type_in, is_used, own_look, cell_at}
use Rattle.hq_translation.specs.GrantedTables.{GrantedTables}
use Rattle.hq_translation.proofs.TextLiterals.{of_either}
use Rattle.hq_translation.specs.Conditions.{literal, operand_literal, joined_by_and, joined_by_or, with_member, where_of, negation_if, first_literal, literals_for, test_of}
use Rattle.hq_translation.specs.Predicates.{link_members, link, Mode, columns_in, guard_from, inner_from, numbers, predicate, predicates, filter_mode, own_numbers, own_predicate}
use Rattle.hq_translation.specs.Masks.{mask_joins, mask_select, used_masks, masks, filter_predicate, shown_look, where_mode}
use Rattle.hq_translation.specs.Selects.{filter_from, behind_filter, key_orders, first_select}
use Rattle.hq_translation.specs.Sorts.{Sort, shown_sorts, own_sorts, last_used, sort_place, sort_numbers, sort_joins, sorts_joins, orders, key_outputs, output_orders}
use Rattle.hq_translation.specs.Lists.{once, list_sorts, list_used, sorts_from, children_from, distinct_columns, list_outputs, list_rows, list_select}
use Rattle.hq_translation.specs.Aggregates.{some_aggregate, taken_value, taken_pairs, count_value, summary_value, summary_pairs, needed, needed_columns, needed_outputs, summary_used, folded_select, plain_select, summary_select}
use Rattle.hq_translation.specs.Fields.{fields_used, key_used, origin_tie, empty_select, key_members, field_value, fields_values, part_value, parts_values, field_numbers, part_numbers, fields_joins, field_joins, parts_joins, part_joins, kids_from}
use Rattle.hq_translation.specs.Shallow.{LowGranted, AreShort, fields_height, field_height, parts_height, part_height, AreLow, IsLow, AreLowParts, IsLowPart, IsShallow}

-- ---- conditions

-- each opens at most k
abbrev Low : ℕ → List PredTree → Type 0
Low k [] = Unit {0}
Low k (p ∷ ps) = (pred_depth p ≤ k) × Low k ps

list_low : (k : ℕ) (ps : List PredTree) → Low k ps → preds_depth (preds_of ps) ≤ k
list_low k [] h = omega arith
list_low k (p ∷ ps) h = max-le h.0 (list_low k ps h.1)

and_low : (k : ℕ) (ps : List PredTree) → Low k ps → pred_depth (joined_by_and ps) ≤ 1 + k
and_low k [] h = omega arith
and_low k (p ∷ []) h = omega (arith, h.0)
and_low k (p ∷ (q ∷ ps)) h = let l : preds_depth (preds_of (p ∷ (q ∷ ps))) ≤ k = list_low k (p ∷ (q ∷ ps)) h in omega (arith, l)

or_low : (k : ℕ) (ps : List PredTree) → Low k ps → pred_depth (joined_by_or ps) ≤ 1 + k
or_low k [] h = omega arith
or_low k (p ∷ []) h = omega (arith, h.0)
or_low k (p ∷ (q ∷ ps)) h = let l : preds_depth (preds_of (p ∷ (q ∷ ps))) ≤ k = list_low k (p ∷ (q ∷ ps)) h in omega (arith, l)

where_low : (k : ℕ) (ps : List PredTree) → Low k ps → filter_depth (where_of ps) ≤ 1 + k
where_low k [] h = omega arith
where_low k (p ∷ ps) h = and_low k (p ∷ ps) h

member_low : (k : ℕ) (p : PredTree) (ps : List PredTree) → pred_depth p ≤ k → Low k ps → Low k (with_member p ps)
member_low k tree.always ps e h = h
member_low k tree.never ps e h = (e, h)
member_low k (tree.test x t xs) ps e h = (e, h)
member_low k (tree.negation p) ps e h = (e, h)
member_low k (tree.all_of qs) ps e h = (e, h)
member_low k (tree.any_of qs) ps e h = (e, h)
member_low k (tree.exists s) ps e h = (e, h)

two_low : (k : ℕ) (a b : PredTree) → pred_depth a ≤ k → pred_depth b ≤ k → filter_depth (where_of (with_member a (with_member b []))) ≤ 1 + k
two_low k a b e f = where_low k (with_member a (with_member b [])) (member_low k a (with_member b []) e (member_low k b [] f tt))

three_low : (k : ℕ) (a b c : PredTree) → pred_depth a ≤ k → pred_depth b ≤ k → pred_depth c ≤ k → filter_depth (where_of (with_member a (with_member b (with_member c [])))) ≤ 1 + k
three_low k a b c e f g =
    where_low k (with_member a (with_member b (with_member c [])))
    (member_low k a (with_member b (with_member c [])) e (member_low k b (with_member c []) f (member_low k c [] g tt)))

lone_low : (k : ℕ) (p : PredTree) → pred_depth p ≤ k → filter_depth (where_of (with_member p [])) ≤ k
lone_low k tree.always e = omega arith
lone_low k tree.never e = e
lone_low k (tree.test x t xs) e = e
lone_low k (tree.negation p) e = e
lone_low k (tree.all_of qs) e = e
lone_low k (tree.any_of qs) e = e
lone_low k (tree.exists s) e = e

literal_low : (ty : Ty) (v : Val) → expr_depth (literal ty v) ≤ 1
literal_low ty val.Null = omega arith
literal_low ty (val.Int n) = omega arith
literal_low ty (val.Text s) = of_either (λ e. expr_depth e ≤ 1) ty s (omega arith) (omega arith)
literal_low ty (val.Bool b) = omega arith

operand_low : (ty : Ty) (o : Operand) → expr_depth (operand_literal ty o) ≤ 1
operand_low ty (Const v) = literal_low ty v
operand_low ty (Session name) = omega arith

operands_low : (ty : Ty) (os : List Operand) → greatest (map expr_depth (map (operand_literal ty) os)) ≤ 1
operands_low ty [] = omega arith
operands_low ty (o ∷ os) = max-le (operand_low ty o) (operands_low ty os)

negation_low : (b : Bool) (p : PredTree) (k : ℕ) → pred_depth p ≤ k → pred_depth (negation_if b p) ≤ 1 + k
negation_low true p k e = omega (arith, e)
negation_low false p k e = omega (arith, e)

first_literal_low : (ty : Ty) (os : List Operand) → expr_depth (first_literal ty os) ≤ 1
first_literal_low ty [] = omega arith
first_literal_low ty (o ∷ os) = operand_low ty o

-- the literals of a test, with the parentheses around a list of them
literals_low : (ty : Ty) (k : Arity) (os : List Operand) → arity_parens k + greatest (map expr_depth (literals_for ty k os)) ≤ 2
literals_low ty Nothing os = omega arith
literals_low ty One os = let z : 0 ≤ 1 = omega arith in let one : max (expr_depth (first_literal ty os)) 0 ≤ 1 = max-le (first_literal_low ty os) z in omega (arith, one)
literals_low ty Many os = omega (arith, operands_low ty os)

nothing_low : (b : Bool) → pred_depth (cond b tree.always tree.never) ≤ 4
nothing_low true = omega arith
nothing_low false = omega arith

test_low : (ty : Ty) (alias name : List ℕ) (form : ColumnForm) (t : Test) (os : List Operand) (negated : Bool) → pred_depth (test_of ty (tree.column alias name form) t os negated) ≤ 4
test_low ty alias name form t os negated =
    let p : PredTree = tree.test (tree.column alias name form) t (literals_for ty (arity t) os) in
    let z : 0 ≤ 2 = omega arith in
    let both : max 0 (arity_parens (arity t) + greatest (map expr_depth (literals_for ty (arity t) os))) ≤ 2 = max-le z (literals_low ty (arity t) os) in
    let go : (b : Bool) → pred_depth (cond b (cond negated tree.always tree.never) (negation_if negated p)) ≤ 4 =
    elim [ true ↦ nothing_low negated | false ↦ negation_low negated p 3 (omega (arith, both)) ] in
    go (is_of_nothing t os)

links_low : (columns remote : List Column) (p q : ℕ) (xs : List Pair) → Low 1 (link_members columns remote p q xs)
links_low columns remote p q [] = tt
links_low columns remote p q (x ∷ xs) = (omega arith, links_low columns remote p q xs)

link_low : (s : Schema) (t : ℕ) (r : Rel) (p q : ℕ) → pred_depth (link s t r p q) ≤ 2
link_low s t r p q =
    and_low 1 (link_members (table s t).columns (table s r.remote).columns p q r.pairs) (links_low (table s t).columns (table s r.remote).columns p q r.pairs)

-- ---- joins and rows

-- each opens at most k
abbrev LowJoins : ℕ → List JoinTree → Type 0
LowJoins k [] = Unit {0}
LowJoins k (j ∷ js) = (1 + select_depth j.select ≤ k) × LowJoins k js

joins_low : (k : ℕ) (js : List JoinTree) → LowJoins k js → joins_depth (joins_of js) ≤ k
joins_low k [] h = omega arith
joins_low k (j ∷ js) h = max-le h.0 (joins_low k js h.1)

append_low : (k : ℕ) (js ks : List JoinTree) → LowJoins k js → LowJoins k ks → LowJoins k (js ++ ks)
append_low k [] ks h i = i
append_low k (j ∷ js) ks h i = (h.0, append_low k js ks h.1 i)

higher_joins : (k m : ℕ) (js : List JoinTree) → k ≤ m → LowJoins k js → LowJoins m js
higher_joins k m [] le h = tt
higher_joins k m (j ∷ js) le h = (let one = h.0 in omega (arith, one, le), higher_joins k m js le h.1)

rows_low : (k : ℕ) (distinct : List ExprTree) (outs : List OutTree) (from : FromTree) (js : JoinTrees) (f : FilterTree) (keys : List OrderTree) (limit offset : Option ℕ)
    → distinct_depth distinct ≤ k → greatest (map (λ o. expr_depth o.value) outs) ≤ k → from_depth from ≤ k → joins_depth js ≤ k
    → filter_depth f ≤ k → greatest (map (λ o. expr_depth o.value) keys) ≤ k
    → select_depth (tree.rows distinct outs from js f keys limit offset) ≤ k
rows_low k distinct outs from js f keys limit offset a b c d e g = max-le a (max-le b (max-le c (max-le d (max-le e g))))

record LowMode (m : Mode) (G : ℕ) : Type 0 where
  guard : (u n from : ℕ) → pred_depth (m.guard u n from) ≤ G
  joins : (u : ℕ) (cs : List ℕ) (n : ℕ) → LowJoins (G + 1) (m.joins u cs n)

module _ (s : Schema) (m : Mode) (G : ℕ) (h : LowMode m G) where
  mutual
    predicate_low : (b : BexpTree) (look : Look) (t p n : ℕ) → pred_depth (predicate b s m look t p n) ≤ 2 * depth b + G + 2
    predicate_low always look t p n = omega arith
    predicate_low (and_of bs) look t p n =
        let k : ℕ = 2 * depth_of_all bs + G + 2 in
        let all = and_low k (predicates bs s m look t p n) (predicates_low bs look t p n k (omega arith)) in
        omega (arith, all)
    predicate_low (or_of bs) look t p n =
        let k : ℕ = 2 * depth_of_all bs + G + 2 in
        let all = or_low k (predicates bs s m look t p n) (predicates_low bs look t p n k (omega arith)) in
        omega (arith, all)
    predicate_low (not_of b) look t p n = let one = predicate_low b look t p n in omega (arith, one)
    predicate_low (test c tested vs negated) look t p n =
        let w = test_low (type_in (table s t).columns c) (look c).alias (look c).name (tested_form tested (type_in (table s t).columns c)) tested (operands_of vs) negated in omega (arith, w)
    predicate_low (through r b) look t p n =
        let u : ℕ = (rel s t r).remote in
        let k : ℕ = 2 * depth b + G + 2 in
        let L : PredTree = link s t (rel s t r) p n in
        let A : PredTree = m.guard u n (guard_from m u (columns_in b) n) in
        let B : PredTree = predicate b s m (m.look u (columns_in b) n) u n (inner_from m u (columns_in b) n) in
        let l : pred_depth L ≤ k = let q = link_low s t (rel s t r) p n in omega (arith, q) in
        let a : pred_depth A ≤ k = let q = h.guard u n (guard_from m u (columns_in b) n) in omega (arith, q) in
        let i : pred_depth B ≤ k = predicate_low b (m.look u (columns_in b) n) u n (inner_from m u (columns_in b) n) in
        let f : filter_depth (where_of (with_member L (with_member A (with_member B [])))) ≤ 1 + k = three_low k L A B l a i in
        let j : joins_depth (joins_of (m.joins u (columns_in b) n)) ≤ 1 + k = let q = joins_low (G + 1) (m.joins u (columns_in b) n) (h.joins u (columns_in b) n) in omega (arith, q) in
        let z : 0 ≤ 1 + k = omega arith in
        let rows =
        rows_low (1 + k) [] (record { value = tree.bool true; name = unit_name } ∷ [])
        (tree.table (table s u).schema (table s u).name (table_alias n)) (joins_of (m.joins u (columns_in b) n))
        (where_of (with_member L (with_member A (with_member B [])))) [] None None z z z j f z in
        omega (arith, rows)
    predicate_low (exists_in u b) look t p n =
        let k : ℕ = 2 * depth b + G + 2 in
        let A : PredTree = m.guard u n (guard_from m u (columns_in b) n) in
        let B : PredTree = predicate b s m (m.look u (columns_in b) n) u n (inner_from m u (columns_in b) n) in
        let y : pred_depth tree.always ≤ k = omega arith in
        let a : pred_depth A ≤ k = let q = h.guard u n (guard_from m u (columns_in b) n) in omega (arith, q) in
        let i : pred_depth B ≤ k = predicate_low b (m.look u (columns_in b) n) u n (inner_from m u (columns_in b) n) in
        let f : filter_depth (where_of (with_member tree.always (with_member A (with_member B [])))) ≤ 1 + k = three_low k tree.always A B y a i in
        let j : joins_depth (joins_of (m.joins u (columns_in b) n)) ≤ 1 + k = let q = joins_low (G + 1) (m.joins u (columns_in b) n) (h.joins u (columns_in b) n) in omega (arith, q) in
        let z : 0 ≤ 1 + k = omega arith in
        let rows =
        rows_low (1 + k) [] (record { value = tree.bool true; name = unit_name } ∷ [])
        (tree.table (table s u).schema (table s u).name (table_alias n)) (joins_of (m.joins u (columns_in b) n))
        (where_of (with_member tree.always (with_member A (with_member B [])))) [] None None z z z j f z in
        omega (arith, rows)
    predicate_low (two_columns i op j) look t p n = omega arith

    predicates_low : (bs : BexpTrees) (look : Look) (t p n k : ℕ) → 2 * depth_of_all bs + G + 2 ≤ k → Low k (predicates bs s m look t p n)
    predicates_low no_bexp look t p n k le = tt
    predicates_low (bexp b bs) look t p n k le =
        let x = le-max_left (depth b) (depth_of_all bs) in
        let y = le-max_right (depth b) (depth_of_all bs) in
        let one = predicate_low b look t p n in
        (omega (arith, le, x, one), predicates_low bs look t p (n + numbers b s m t) k (omega (arith, le, y)))

no_mode : (s : Schema) → LowMode (filter_mode s) 0
no_mode s = record { guard = λ u n from. omega arith; joins = λ u cs n. tt }

own_low : (b : BexpTree) (s : Schema) (t p n F : ℕ) → depth b ≤ F → pred_depth (own_predicate b s t p n) ≤ 2 * F + 2
own_low b s t p n F le = let h = predicate_low s (filter_mode s) 0 (no_mode s) b (own_look (table s t).columns p) t p n in omega (arith, h, le)

masks_low : (ms : List Mask) (s : Schema) (t p n F : ℕ) → Each (λ m. depth m.shown ≤ F) ms → LowJoins (2 * F + 3) (mask_joins ms s t p n)
masks_low [] s t p n F h = tt
masks_low (m ∷ ms) s t p n F h =
    let shown = own_predicate m.shown s t p (n + 1) in
    let one : pred_depth shown ≤ 2 * F + 2 = own_low m.shown s t p (n + 1) F h.0 in
    let z : 0 ≤ 2 * F + 2 = omega arith in
    let f : filter_depth (where_of (with_member shown [])) ≤ 2 * F + 2 = lone_low (2 * F + 2) shown one in
    let rows : select_depth (mask_select m s t p n) ≤ 2 * F + 2 =
    rows_low (2 * F + 2) [] (record { value = cell_at (own_look (table s t).columns p m.column); name = value_name } ∷ [])
    (tree.one (table_alias n)) tree.no_join (where_of (with_member shown [])) [] None None z z (omega arith) z f z in
    (omega (arith, rows), masks_low ms s t p (n + (1 + own_numbers m.shown s t)) F h.1)

-- ---- sort keys and values

keys_flat : (columns : List Column) (p : ℕ) (cs : List ℕ) → greatest (map (λ k. expr_depth k.value) (key_orders columns p cs)) ≡ 0
keys_flat columns p [] = refl
keys_flat columns p (c ∷ cs) = rw (keys_flat columns p cs) refl

distinct_flat : (columns : List Column) (look : Look) (cs : List ℕ) → greatest (map expr_depth (distinct_columns columns look cs)) ≡ 0
distinct_flat columns look [] = refl
distinct_flat columns look (c ∷ cs) = rw (distinct_flat columns look cs) refl

distinct_low : (columns : List Column) (look : Look) (cs : List ℕ) → distinct_depth (distinct_columns columns look cs) ≤ 1
distinct_low columns look [] = omega arith
distinct_low columns look (c ∷ cs) = rw (distinct_flat columns look cs) (omega arith)

orders_flat : (ks : List Sort) (s : Schema) (g : GrantedTables) (look : Look) (t p n : ℕ) → greatest (map (λ k. expr_depth k.value) (orders ks s g look t p n)) ≡ 0
orders_flat [] s g look t p n = refl
orders_flat (k ∷ ks) s g look t p n = rw (orders_flat ks s g look t p (n + sort_numbers k.key.through s g t k.key.column)) refl

outputs_flat : (ks : List Sort) (s : Schema) (g : GrantedTables) (look : Look) (t p n i : ℕ) → greatest (map (λ o. expr_depth o.value) (key_outputs ks s g look t p n i)) ≡ 0
outputs_flat [] s g look t p n i = refl
outputs_flat (k ∷ ks) s g look t p n i = rw (outputs_flat ks s g look t p (n + sort_numbers k.key.through s g t k.key.column) (i + 1)) refl

output_orders_flat : (ks : List Sort) (s : Schema) (t n i : ℕ) → orders_depth (orders_of (output_orders ks s t n i)) ≡ 0
output_orders_flat [] s t n i = refl
output_orders_flat (k ∷ ks) s t n i = rw (output_orders_flat ks s t n (i + 1)) refl

field_flat : (f : FieldTree) (columns : List Column) (look : Look) (n : ℕ) → expr_depth (field_value f columns look n) ≡ 0
field_flat (column c) columns look n = refl
field_flat (typename name) columns look n = refl
field_flat no_queries columns look n = refl
field_flat (object r fs) columns look n = refl
field_flat (list o a fs) columns look n = refl
field_flat (by_key u key fs) columns look n = refl
field_flat (aggregate o a ps) columns look n = refl
field_flat (introspect f) columns look n = refl

fields_flat : (fs : FieldTrees) (s : Schema) (g : GrantedTables) (look : Look) (t n : ℕ) → pairs_depth (pairs_of (fields_values fs s g look t n)) ≡ 0
fields_flat no_field s g look t n = refl
fields_flat (field key f fs) s g look t n = rw (field_flat f (table s t).columns look n, fields_flat fs s g look t (n + field_numbers f s g t)) refl

part_flat : (p : PartTree) (n : ℕ) → expr_depth (part_value p n) ≡ 0
part_flat (summary fs) n = refl
part_flat (nodes fs) n = refl
part_flat (part_typename name) n = refl

parts_flat : (ps : PartTrees) (s : Schema) (g : GrantedTables) (u : ℕ) (a : ListArguments) (n : ℕ) → pairs_depth (pairs_of (parts_values ps s g u a n)) ≡ 0
parts_flat no_part s g u a n = refl
parts_flat (part key p ps) s g u a n = rw (part_flat p n, parts_flat ps s g u a (n + part_numbers p s g u a)) refl

key_low : (columns : List Column) (look : Look) (cs : List ℕ) (vs : List Val) → Low 2 (key_members columns look cs vs)
key_low columns look [] vs = tt
key_low columns look (c ∷ cs) [] = tt
key_low columns look (c ∷ cs) (v ∷ vs) =
    let z : 0 ≤ 1 = omega arith in
    let one : max (expr_depth (literal (type_in columns c) v)) 0 ≤ 1 = max-le (literal_low (type_in columns c) v) z in
    let both : max 0 (0 + max (expr_depth (literal (type_in columns c) v)) 0) ≤ 1 = max-le z (omega (arith, one)) in
    (omega (arith, both), key_low columns look cs vs)

-- ---- aggregates

module _ (f : Aggregate) where
  taken_low : (columns : List Column) (n : ℕ) (cs : List ℕ) (ks : List KeyedAggCol) → pairs_depth (pairs_of (taken_pairs f columns n cs ks)) ≤ 1
  taken_low columns n cs [] = omega arith
  taken_low columns n cs (k ∷ ks) =
      let go : (c : AggCol) → expr_depth (taken_value f columns n cs c) ≤ 1 = elim [ of.Column c ↦ omega arith | of.Typename name ↦ omega arith ] in
      max-le (go k.field) (taken_low columns n cs ks)

count_low : (columns : List Column) (n : ℕ) (cs : List ℕ) (c : Option ℕ) (distinct : Bool) → expr_depth (count_value columns n cs c distinct) ≤ 1
count_low columns n cs None distinct = omega arith
count_low columns n cs (Some c) distinct = omega arith

summary_low : (columns : List Column) (n : ℕ) (cs : List ℕ) (f : AggField) → expr_depth (summary_value columns n cs f) ≤ 2
summary_low columns n cs (take.Count c distinct) = let h = count_low columns n cs c distinct in omega (arith, h)
summary_low columns n cs (take.Columns f ks) = let h = taken_low f columns n cs ks in omega (arith, h)
summary_low columns n cs (take.Typename name) = omega arith

summaries_low : (columns : List Column) (n : ℕ) (cs : List ℕ) (fs : List KeyedAggField) → pairs_depth (pairs_of (summary_pairs columns n cs fs)) ≤ 2
summaries_low columns n cs [] = omega arith
summaries_low columns n cs (f ∷ fs) = max-le (summary_low columns n cs f.field) (summaries_low columns n cs fs)

needed_flat : (look : Look) (cs : List ℕ) (i : ℕ) → greatest (map (λ o. expr_depth o.value) (needed_columns look cs i)) ≡ 0
needed_flat look [] i = refl
needed_flat look (c ∷ cs) i = rw (needed_flat look cs (i + 1)) refl

needed_outputs_flat : (look : Look) (cs : List ℕ) → greatest (map (λ o. expr_depth o.value) (needed_outputs look cs)) ≡ 0
needed_outputs_flat look [] = refl
needed_outputs_flat look (c ∷ cs) = needed_flat look (c ∷ cs) 0

-- ---- the selects

-- entries of a list go through few relationships
distinct_short : (cs : List ℕ) (C : ℕ) → Each (λ k. length k.through ≤ C) (ascending cs)
distinct_short [] C = tt
distinct_short (c ∷ cs) C = (omega arith, distinct_short cs C)

entries_short : (ks : List SortKey) (cs : List ℕ) (C : ℕ) → Each (λ k. length k.through ≤ C) ks → Each (λ k. length k.through ≤ C) (sorts_or ks (ascending cs))
entries_short [] cs C h = distinct_short cs C
entries_short (k ∷ ks) cs C h = h

own_short : (cs : List ℕ) (C : ℕ) → Each (λ k. length k.key.through ≤ C) (own_sorts cs)
own_short [] C = tt
own_short (c ∷ cs) C = (omega arith, own_short cs C)

sorts_short : (ks : List SortKey) (cs : List ℕ) (C : ℕ) → Each (λ k. length k.through ≤ C) ks → Each (λ k. length k.key.through ≤ C) (shown_sorts ks (own_sorts cs))
sorts_short [] cs C h = own_short cs C
sorts_short (k ∷ ks) cs C h = (h.0, sorts_short ks cs C h.1)

each_used : (used : Mask → Bool) (F : ℕ) (ms : List Mask) → Each (λ m. depth m.shown ≤ F) ms → Each (λ m. depth m.shown ≤ F) (filter used ms)
each_used used F [] h = tt
each_used used F (m ∷ ms) h =
    let go : (b : Bool) → Each (λ m. depth m.shown ≤ F) (cond b (m ∷ filter used ms) (filter used ms)) = elim [ true ↦ (h.0, each_used used F ms h.1) | false ↦ each_used used F ms h.1 ] in
    go (used m)

module _ (s : Schema) (g : GrantedTables) (F : ℕ) (low : LowGranted g F) where
  used_low : (t : ℕ) (cs : List ℕ) (p n : ℕ) → LowJoins (2 * F + 3) (mask_joins (used_masks g t cs) s t p n)
  used_low t cs p n = masks_low (used_masks g t cs) s t p n F (each_used (λ m. is_used m.column cs) F (g.masks t) (low.1 t))

  where_low_mode : LowMode (where_mode s g) (2 * F + 2)
  where_low_mode = record {
    guard = λ u n from. own_low (g.filter u) s u n from F (low.0 u);
    joins = λ u cs n. higher_joins (2 * F + 3) (2 * F + 2 + 1) (masks s g u cs n) (omega arith) (used_low u cs n (n + 1));
  }

  first_low : (t n k : ℕ) (tie : PredTree) (from : ℕ) (e : ExprTree) (js : List JoinTree) → 2 * F + 4 ≤ k → pred_depth tie ≤ 2 * F + 3
      → expr_depth e ≤ k → LowJoins k js → select_depth (first_select s t n tie (filter_predicate s g t n from) e js) ≤ k
  first_low t n k tie from e js le l value joins =
      let a : pred_depth (filter_predicate s g t n from) ≤ 2 * F + 3 = let q = own_low (g.filter t) s t n from F (low.0 t) in omega (arith, q) in
      let f : filter_depth (where_of (with_member tie (with_member (filter_predicate s g t n from) []))) ≤ k =
      let q = two_low (2 * F + 3) tie (filter_predicate s g t n from) l a in omega (arith, q, le) in
      let z : 0 ≤ k = omega arith in
      let keys : greatest (map (λ o. expr_depth o.value) (key_orders (table s t).columns n (table s t).key)) ≤ k = rw (keys_flat (table s t).columns n (table s t).key) z in
      rows_low k [] (record { value = e; name = value_name } ∷ []) (tree.table (table s t).schema (table s t).name (table_alias n))
      (joins_of js) (where_of (with_member tie (with_member (filter_predicate s g t n from) [])))
      (key_orders (table s t).columns n (table s t).key) (Some 1) None z (max-le value z) z (joins_low k js joins) f keys

  sort_low : (rs : List ℕ) (t p n c k : ℕ) → length rs + (2 * F + 4) ≤ k → LowJoins k (sort_joins rs s g t p n c)
  sort_low [] t p n c k le = tt
  sort_low (r ∷ rs) t p n c k le =
      let u : ℕ = (rel s t r).remote in
      let m : ℕ = length rs + (2 * F + 4) in
      let tie : pred_depth (link s t (rel s t r) p n) ≤ 2 * F + 3 = let q = link_low s t (rel s t r) p n in omega (arith, q) in
      let cs : List ℕ = last_used rs c in
      let next : ℕ = behind_filter s g u cs n in
      let later : List JoinTree = sort_joins rs s g u n next c in
      let inner = append_low m (masks s g u cs n) later (higher_joins (2 * F + 3) m (masks s g u cs n) (omega arith) (used_low u cs n (n + 1))) (sort_low rs u n next c m (omega arith)) in
      let first =
      first_low u n m (link s t (rel s t r) p n) (filter_from s g u cs n)
      (cell_at (sort_place false rs s (shown_look s g u cs n) u n next c)) (masks s g u cs n ++ later) (omega arith) tie (omega arith)
      inner in
      (omega (arith, first, le), tt)

  sorts_low : (ks : List Sort) (t p n k C : ℕ) → Each (λ x. length x.key.through ≤ C) ks → C + (2 * F + 4) ≤ k → LowJoins k (sorts_joins ks s g t p n)
  sorts_low [] t p n k C h le = tt
  sorts_low (x ∷ ks) t p n k C h le =
      let next : ℕ = n + sort_numbers x.key.through s g t x.key.column in
      append_low k (sort_joins x.key.through s g t p n x.key.column) (sorts_joins ks s g t p next)
      (sort_low x.key.through t p n x.key.column k (let one = h.0 in omega (arith, one, le))) (sorts_low ks t p next k C h.1 le)

  tie_low : (o : Origin) (t p n : ℕ) → pred_depth (origin_tie o s t p n) ≤ 2
  tie_low (from_table u) t p n = omega arith
  tie_low (along r) t p n = link_low s t (rel s t r) p n

  module _ (X C : ℕ) where
    abbrev base : ℕ
    base = 2 * X + 2 * F + C + 6

    list_rows_low : (t : ℕ) (cs : List ℕ) (a : ListArguments) (n k : ℕ) (tie : PredTree) (limit : Option ℕ) (outs : List OutTree)
        (children : List JoinTree)
        → AreShort a X C → base ≤ k → pred_depth tie ≤ 2
        → greatest (map (λ o. expr_depth o.value) outs) ≤ k → LowJoins k children → select_depth (list_rows s g t cs a n tie limit outs children) ≤ k
    list_rows_low t cs a n k tie limit outs children short le l values joins =
        let c : ℕ = 2 * X + 2 * F + 4 in
        let x = short.0 in
        let A : PredTree = filter_predicate s g t n (filter_from s g t cs n) in
        let B : PredTree = predicate a.wanted s (where_mode s g) (shown_look s g t cs n) t n (behind_filter s g t cs n) in
        let d : pred_depth tie ≤ c = omega (arith, l) in
        let e : pred_depth A ≤ c = let q = own_low (g.filter t) s t n (filter_from s g t cs n) F (low.0 t) in omega (arith, q) in
        let f : pred_depth B ≤ c = let q = predicate_low s (where_mode s g) (2 * F + 2) where_low_mode a.wanted (shown_look s g t cs n) t n (behind_filter s g t cs n) in omega (arith, q, x) in
        let condition : filter_depth (where_of (with_member tie (with_member A (with_member B [])))) ≤ k = let q = three_low c tie A B d e f in omega (arith, q, le) in
        let later : List JoinTree = sorts_joins (list_sorts s t a) s g t n (sorts_from s g t cs a n) ++ children in
        let all = append_low k (masks s g t cs n) later (higher_joins (2 * F + 3) k (masks s g t cs n) (omega (arith, le)) (used_low t cs n (n + 1)))
        (append_low k (sorts_joins (list_sorts s t a) s g t n (sorts_from s g t cs a n)) children
        (sorts_low (list_sorts s t a) t n (sorts_from s g t cs a n) k C
        (sorts_short (entries (once a)) (table s t).key C (entries_short a.sorts (once a).distinct C short.1)) (omega (arith, le)))
        joins)
        in
        let z : 0 ≤ k = omega arith in
        let keys : greatest
        (map (λ o. expr_depth o.value) (orders (list_sorts s t a) s g (shown_look s g t cs n) t n (sorts_from s g t cs a n)))
        ≤ k =
        rw (orders_flat (list_sorts s t a) s g (shown_look s g t cs n) t n (sorts_from s g t cs a n)) z in
        let distinct : distinct_depth (distinct_columns (table s t).columns (shown_look s g t cs n) (once a).distinct) ≤ k =
        let q = distinct_low (table s t).columns (shown_look s g t cs n) (once a).distinct in omega (arith, q, le) in
        rows_low k (distinct_columns (table s t).columns (shown_look s g t cs n) (once a).distinct) outs
        (tree.table (table s t).schema (table s t).name (table_alias n)) (joins_of (masks s g t cs n ++ later))
        (where_of (with_member tie (with_member A (with_member B []))))
        (orders (list_sorts s t a) s g (shown_look s g t cs n) t n (sorts_from s g t cs a n)) limit a.offset distinct values z (joins_low k (masks s g t cs n ++ later) all) condition keys

    list_select_low : (t : ℕ) (cs : List ℕ) (a : ListArguments) (n k : ℕ) (tie : PredTree) (values : List PairTree)
        (children : List JoinTree)
        → AreShort a X C → base ≤ k → pred_depth tie ≤ 2 → pairs_depth (pairs_of values) ≡ 0
        → LowJoins k children → select_depth (list_select s g t cs a n tie values children) ≤ 1 + k
    list_select_low t cs a n k tie values children short le l flat joins =
        let ks : List Sort = list_sorts s t a in
        let value : expr_depth (tree.object (pairs_of values)) ≤ k = rw flat (omega (arith, le)) in
        let others : greatest (map (λ o. expr_depth o.value) (key_outputs ks s g (shown_look s g t cs n) t n (sorts_from s g t cs a n) 0))
        ≤ k =
        rw (outputs_flat ks s g (shown_look s g t cs n) t n (sorts_from s g t cs a n) 0) (omega arith) in
        let rows = list_rows_low t cs a n k tie (smaller a.limit (g.limit t)) (list_outputs s g t cs a n values) children short le l (max-le value others) joins in
        let array : 1 + (1 + max 0 (orders_depth (orders_of (output_orders ks s t n 0)))) ≤ 1 + k = rw (output_orders_flat ks s t n 0) (omega (arith, le)) in
        let inner : 1 + select_depth (list_rows s g t cs a n tie (smaller a.limit (g.limit t)) (list_outputs s g t cs a n values) children) ≤ 1 + k = omega (arith, rows) in
        max-le array inner

    summary_select_low : (fs : List KeyedAggField) (t : ℕ) (a : ListArguments) (n k : ℕ) (tie : PredTree) → AreShort a X C → base ≤ k
        → pred_depth tie ≤ 2 → select_depth (summary_select fs s g t a n tie) ≤ 1 + k
    summary_select_low fs t a n k tie short le l =
        let cs : List ℕ = needed fs [] in
        let used : List ℕ = summary_used s t a fs in
        let pairs = summaries_low (table s t).columns n cs fs in
        let value : expr_depth (tree.object (pairs_of (summary_pairs (table s t).columns n cs fs))) ≤ 1 + k = omega (arith, pairs, le) in
        let z : 0 ≤ 1 + k = omega arith in
        let go : (b : Bool) → select_depth (cond b (folded_select fs s g t a n tie) (plain_select fs s t n)) ≤ 1 + k =
        elim [
          | true ↦
              let outs : greatest (map (λ o. expr_depth o.value) (needed_outputs (shown_look s g t used n) cs)) ≤ k = rw (needed_outputs_flat (shown_look s g t used n) cs) (omega arith) in
              let rows = list_rows_low t used a n k tie a.limit (needed_outputs (shown_look s g t used n) cs) [] short le l outs tt in
              let inner : 1 + select_depth (list_rows s g t used a n tie a.limit (needed_outputs (shown_look s g t used n) cs) []) ≤ 1 + k = omega (arith, rows) in
              max-le value inner
          | false
              ↦ rows_low (1 + k) []
              (record { value = tree.object (pairs_of (summary_pairs (table s t).columns n cs fs)); name = value_name } ∷ [])
              (tree.one (table_alias n)) tree.no_join tree.no_filter [] None None z (max-le value z) (omega arith) z z z
        ] in
        go (some_aggregate fs)

    empty_low : (n k : ℕ) → 1 ≤ k → select_depth (empty_select n) ≤ k
    empty_low n k le =
        let z : 0
        ≤ k = omega arith in rows_low k [] (record { value = tree.object tree.no_pair; name = value_name } ∷ [])
        (tree.one (table_alias n)) tree.no_join (tree.filter tree.never) [] None None z (max-le le z) le z z z

    -- the first row's object, and a list, of fields whose joins are given
    first_of : (fs : FieldTrees) (u n k : ℕ) (cs : List ℕ) (tie : PredTree) → base ≤ k → pred_depth tie ≤ 2 * F + 3 → LowJoins k (fields_joins fs s g u n (behind_filter s g u cs n))
        → select_depth
        (first_select s u n tie (filter_predicate s g u n (filter_from s g u cs n))
        (tree.object (pairs_of (fields_values fs s g (shown_look s g u cs n) u (behind_filter s g u cs n))))
        (masks s g u cs n ++ fields_joins fs s g u n (behind_filter s g u cs n)))
        ≤ k
    first_of fs u n k cs tie le l joins =
        let next : ℕ = behind_filter s g u cs n in
        let later : List JoinTree = fields_joins fs s g u n next in
        let value : expr_depth (tree.object (pairs_of (fields_values fs s g (shown_look s g u cs n) u next))) ≤ k = rw (fields_flat fs s g (shown_look s g u cs n) u next) (omega (arith, le)) in
        let inner = append_low k (masks s g u cs n) later (higher_joins (2 * F + 3) k (masks s g u cs n) (omega (arith, le)) (used_low u cs n (n + 1))) joins in
        first_low u n k tie (filter_from s g u cs n) (tree.object (pairs_of (fields_values fs s g (shown_look s g u cs n) u next))) (masks s g u cs n ++ later) (omega (arith, le)) l value inner

    list_of : (fs : FieldTrees) (u : ℕ) (a : ListArguments) (n k : ℕ) (tie : PredTree) → AreShort a X C → base ≤ k → pred_depth tie ≤ 2
        → LowJoins k (fields_joins fs s g u n (children_from s g u (list_used s u a (fields_used fs)) a n))
        → select_depth (list_select s g u (list_used s u a (fields_used fs)) a n tie
        (fields_values fs s g (shown_look s g u (list_used s u a (fields_used fs)) n) u
        (children_from s g u (list_used s u a (fields_used fs)) a n))
        (fields_joins fs s g u n (children_from s g u (list_used s u a (fields_used fs)) a n))) ≤ 1 + k
    list_of fs u a n k tie short le l joins =
        let cs : List ℕ = list_used s u a (fields_used fs) in
        let kids : ℕ = children_from s g u cs a n in
        list_select_low u cs a n k tie (fields_values fs s g (shown_look s g u cs n) u kids) (fields_joins fs s g u n kids) short le l (fields_flat fs s g (shown_look s g u cs n) u kids) joins

    -- ---- the induction

    mutual
      fields_low : (fs : FieldTrees) (k t p n : ℕ) → AreLow fs X C → 2 * fields_height fs + base ≤ k → LowJoins k (fields_joins fs s g t p n)
      fields_low no_field k t p n h le = tt
      fields_low (field key f fs) k t p n h le =
          let x = le-max_left (field_height f) (fields_height fs) in
          let y = le-max_right (field_height f) (fields_height fs) in
          append_low k (field_joins f s g t p n) (fields_joins fs s g t p (n + field_numbers f s g t))
          (field_low f k t p n h.0 (omega (arith, le, x))) (fields_low fs k t p (n + field_numbers f s g t) h.1 (omega (arith, le, y)))

      field_low : (f : FieldTree) (k t p n : ℕ) → IsLow f X C → 2 * field_height f + base ≤ k → LowJoins k (field_joins f s g t p n)
      field_low (column c) k t p n h le = tt
      field_low (typename name) k t p n h le = tt
      field_low no_queries k t p n h le = (let q = empty_low n 1 (omega arith) in omega (arith, q, le), tt)
      field_low (object r fs) k t p n h le =
          let u : ℕ = (rel s t r).remote in
          let m : ℕ = 2 * fields_height fs + base in
          let tie : pred_depth (link s t (rel s t r) p n) ≤ 2 * F + 3 = let q = link_low s t (rel s t r) p n in omega (arith, q) in
          let first = first_of fs u n m (fields_used fs) (link s t (rel s t r) p n) (omega arith) tie (fields_low fs m u n (behind_filter s g u (fields_used fs) n) h (omega arith)) in
          (omega (arith, first, le), tt)
      field_low (list o a fs) k t p n h le =
          let u : ℕ = origin_table o s t in
          let m : ℕ = 2 * fields_height fs + base in
          let l = list_of fs u a n m (origin_tie o s t p n) h.0 (omega arith) (tie_low o t p n) (fields_low fs m u n (kids_from s g u a fs n) h.1 (omega arith)) in
          (omega (arith, l, le), tt)
      field_low (by_key u key fs) k t p n h le =
          let m : ℕ = 2 * fields_height fs + base in
          let used : List ℕ = key_used s u fs in
          let members : List PredTree = key_members (table s u).columns (shown_look s g u used n) (table s u).key key in
          let tie : pred_depth (joined_by_and members) ≤ 2 * F + 3 = let q = and_low 2 members (key_low (table s u).columns (shown_look s g u used n) (table s u).key key) in omega (arith, q) in
          let first = first_of fs u n m used (joined_by_and members) (omega arith) tie (fields_low fs m u n (behind_filter s g u used n) h (omega arith)) in
          (omega (arith, first, le), tt)
      field_low (aggregate o a ps) k t p n h le =
          let u : ℕ = origin_table o s t in
          let m : ℕ = 2 * parts_height ps + base in
          let z : 0 ≤ m = omega arith in
          let value : expr_depth (tree.object (pairs_of (parts_values ps s g u a (n + 1)))) ≤ m = rw (parts_flat ps s g u a (n + 1)) (omega arith) in
          let inner = parts_low ps o m t p a (n + 1) h.0 h.1 (omega arith) in
          let rows =
          rows_low m [] (record { value = tree.object (pairs_of (parts_values ps s g u a (n + 1))); name = value_name } ∷ [])
          (tree.one (table_alias n)) (joins_of (parts_joins ps s g o t p a (n + 1))) tree.no_filter [] None None z (max-le value z)
          (omega arith) (joins_low m (parts_joins ps s g o t p a (n + 1)) inner) z z in
          (omega (arith, rows, le), tt)
      field_low (introspect f) k t p n h le = (let q = empty_low n 1 (omega arith) in omega (arith, q, le), tt)

      parts_low : (ps : PartTrees) (o : Origin) (k t p : ℕ) (a : ListArguments) (n : ℕ) → AreShort a X C → AreLowParts ps X C
          → 2 * parts_height ps + base ≤ k → LowJoins k (parts_joins ps s g o t p a n)
      parts_low no_part o k t p a n short h le = tt
      parts_low (part key q ps) o k t p a n short h le =
          let x = le-max_left (part_height q) (parts_height ps) in
          let y = le-max_right (part_height q) (parts_height ps) in
          append_low k (part_joins q s g o t p a n) (parts_joins ps s g o t p a (n + part_numbers q s g (origin_table o s t) a))
          (part_low q o k t p a n short h.0 (omega (arith, le, x)))
          (parts_low ps o k t p a (n + part_numbers q s g (origin_table o s t) a) short h.1 (omega (arith, le, y)))

      part_low : (q : PartTree) (o : Origin) (k t p : ℕ) (a : ListArguments) (n : ℕ) → AreShort a X C → IsLowPart q X C → 2 * part_height q + base ≤ k → LowJoins k (part_joins q s g o t p a n)
      part_low (summary fs) o k t p a n short h le =
          let l = summary_select_low fs (origin_table o s t) a n base (origin_tie o s t p n) short (omega arith) (tie_low o t p n) in
          (omega (arith, l, le), tt)
      part_low (nodes fs) o k t p a n short h le =
          let u : ℕ = origin_table o s t in
          let m : ℕ = 2 * fields_height fs + base in
          let l = list_of fs u a n m (origin_tie o s t p n) short (omega arith) (tie_low o t p n) (fields_low fs m u n (kids_from s g u a fs n) h (omega arith)) in
          (omega (arith, l, le), tt)
      part_low (part_typename name) o k t p a n short h le = tt

-- the statement
pub is_shallow : (fs : FieldTrees) (s : Schema) (g : GrantedTables) (F X C : ℕ) → IsShallow fs s g F X C
is_shallow fs s g F X C low short =
    let k : ℕ = 2 * fields_height fs + (2 * X + 2 * F + C + 6) in
    let z : 0 ≤ k = omega arith in
    let joins = fields_low s g F low X C fs k (length s) 0 1 short (omega arith) in
    let value : expr_depth (tree.object (pairs_of (fields_values fs s g (own_look (table s (length s)).columns 0) (length s) 1))) ≤ k =
    rw (fields_flat fs s g (own_look (table s (length s)).columns 0) (length s) 1) (omega arith) in
    rows_low k []
    (record
    { value = tree.object (pairs_of (fields_values fs s g (own_look (table s (length s)).columns 0) (length s) 1)); name = value_name }
    ∷ [])
    (tree.one (table_alias 0)) (joins_of (fields_joins fs s g (length s) 0 1)) tree.no_filter [] None None
    z (max-le value z) (omega arith) (joins_low k (fields_joins fs s g (length s) 0 1) joins) z z
