-- The next item of a list that is gone over: what is left tells what the whole does.
use Rattle.std.proofs.Common.{◌≡◌, ◌∙◌, sym, ap, ℕ, ◌+◌, ◌<◌, ◌≤◌, List, [], drop, length, get_or, arith, map, max, nat_le, Bool, true, false, ◌&&◌, rules}
use Rattle.std.specs.List.{list_all}
use Rattle.std.proofs.lemmas.Bool.Decides.{nat_tests}
use Rattle.std.proofs.lemmas.List.{at_drop_all}
use Rattle.hq_sql_tree.specs.declared.expr.Agg as agg
use Rattle.hq_sql_tree.specs.declared.expr.ExprPair.{ExprPair}
use Rattle.hq_sql_tree.specs.declared.expr.Order.{Order}
use Rattle.hq_sql_tree.specs.declared.select.Join.{Join}
use Rattle.hq_sql_tree.specs.declared.select.Pred.{Pred}
use Rattle.hq_sql_tree.specs.Tree as tree
use Rattle.hq_sql_tree.specs.Tree.{PairTree, OrderTree, JoinTree, joins_of, pairs_of, orders_of, preds_of}
use Rattle.hq_sql_tree.specs.View.{expr_view, order_view, select_view, join_view, pair_view, pred_view}
use Rattle.hq_sql_tree.proofs.Views.{view_join}
pub use Rattle.hq_base.proofs.Loops.{next_item, holds_next as passes, fails_next as fails}

-- a join of those that are left
pub next_join : (js : List Join) (i : ℕ) (j : Join) → i < length js → j ≡ get_or js i j
    → joins_of (map join_view (drop i js)) ≡ tree.join (select_view j.select.value) j.alias (joins_of (map join_view (drop (i + 1) js)))
next_join js i j lt is =
    ap (λ xs. joins_of (map join_view xs)) (next_item js i j lt is)
    ∙ ap (λ (seen : JoinTree). tree.join seen.select seen.alias (joins_of (map join_view (drop (i + 1) js)))) (view_join j)

-- a condition of those that are left
pub next_pred : (ps : List Pred) (i : ℕ) (p : Pred) → i < length ps → p ≡ get_or ps i p → preds_of (map pred_view (drop i ps)) ≡ tree.pred (pred_view p) (preds_of (map pred_view (drop (i + 1) ps)))
next_pred ps i p lt is = ap (λ xs. preds_of (map pred_view xs)) (next_item ps i p lt is)

-- the parts of a pair
view_pair : (p : ExprPair) → pair_view p ≡ record { name = p.name; value = expr_view p.value }
view_pair p = search (rules, agg.the_lemmas)

-- the parts of a sort key
pub view_order : (o : Order) → order_view o ≡ record { value = expr_view o.value; desc = o.desc; nulls_first = o.nulls_first }
view_order o = search (rules, agg.the_lemmas)

-- the expression of a sort key
pub view_key : (o : Order) → (order_view o).value ≡ expr_view o.value
view_key o = ap (λ (seen : OrderTree). seen.value) (view_order o)

-- a sort key of those that are left
pub next_order : (os : List Order) (i : ℕ) (o : Order) → i < length os → o ≡ get_or os i o
    → orders_of (map order_view (drop i os)) ≡ tree.order (expr_view o.value) o.desc o.nulls_first (orders_of (map order_view (drop (i + 1) os)))
next_order os i o lt is =
    ap (λ xs. orders_of (map order_view xs)) (next_item os i o lt is)
    ∙ ap (λ (seen : OrderTree). tree.order seen.value seen.desc seen.nulls_first (orders_of (map order_view (drop (i + 1) os)))) (view_order o)

-- a pair of those that are left
pub next_pair : (ps : List ExprPair) (i : ℕ) (p : ExprPair) → i < length ps → p ≡ get_or ps i p
    → pairs_of (map pair_view (drop i ps)) ≡ tree.pair p.name (expr_view p.value) (pairs_of (map pair_view (drop (i + 1) ps)))
next_pair ps i p lt is =
    ap (λ xs. pairs_of (map pair_view xs)) (next_item ps i p lt is)
    ∙ ap (λ (seen : PairTree). tree.pair seen.name seen.value (pairs_of (map pair_view (drop (i + 1) ps)))) (view_pair p)

-- at the end of a list what is left tells what the whole does
pub at_end : {A V : Type 0} (F : List A → V) (xs : List A) (i : ℕ) (v whole : V) → F [] ≡ v → length xs ≤ i → F (drop i xs) ≡ whole → v ≡ whole
at_end F xs i v whole none over so_far = sym (at_drop_all F xs i over ∙ none) ∙ so_far

-- a test of all: where the next item passes, those behind it tell what all do
pub all_pass : {A B : Type 0} (p : B → Bool) (view : A → B) (xs : List A) (i : ℕ) (x : A) → i < length xs → x ≡ get_or xs i x
    → list_all p (map view (drop i xs)) ≡ list_all p (map view xs) → p (view x) ≡ true → list_all p (map view (drop (i + 1) xs)) ≡ list_all p (map view xs)
all_pass p view xs i x lt is so_far holds =
    passes (p (view x)) (list_all p (map view (drop (i + 1) xs))) (list_all p (map view (drop i xs))) (list_all p (map view xs))
    (ap (λ ys. list_all p (map view ys)) (next_item xs i x lt is)) so_far holds

-- and where it fails, all do
pub all_fail : {A B : Type 0} (p : B → Bool) (view : A → B) (xs all : List A) (i : ℕ) (x : A) → xs ≡ all → i < length xs → x ≡ get_or xs i x
    → list_all p (map view (drop i xs)) ≡ list_all p (map view xs) → p (view x) ≡ false → false ≡ list_all p (map view all)
all_fail p view xs all i x same lt is so_far holds =
    fails (p (view x)) (list_all p (map view (drop (i + 1) xs))) (list_all p (map view (drop i xs))) (list_all p (map view xs))
    (ap (λ ys. list_all p (map view ys)) (next_item xs i x lt is)) so_far holds
    ∙ ap (λ ys. list_all p (map view ys)) same

-- the greater of two is within where both are
pub max_within : (a b n : ℕ) → nat_le (max a b) n ≡ (nat_le a n && nat_le b n)
max_within a b n = grind (arith, nat_tests)
