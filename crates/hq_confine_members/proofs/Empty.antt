-- Lists that are empty, and what they are seen as.
use Rattle.std.proofs.Common.{◌≡◌, ◌==◌, List, [], ◌∷◌, map, length, ◌&&◌, false, rules, refl, sym, ap, ◌∙◌, arith}
use Rattle.std.proofs.lemmas.Bool.{ne_eqb}
use Rattle.std.specs.Global.{Vec}
use Rattle.hq_sql_tree.specs.declared.expr.Agg as agg
use Rattle.hq_sql_tree.specs.declared.expr.Expr.{Expr, Object}
use Rattle.hq_sql_tree.specs.declared.expr.ExprPair.{ExprPair}
use Rattle.hq_sql_tree.specs.declared.select.Join.{Join}
use Rattle.hq_sql_tree.specs.Tree as tree
use Rattle.hq_sql_tree.specs.Tree.{joins_of, pairs_of}
use Rattle.hq_sql_tree.specs.View.{expr_view, join_view, pair_view}
use Rattle.hq_sql_tree.specs.Form.{is_no_join}
use Rattle.hq_confine_rules.specs.Renamed.{Renaming, is_alike_expr}

some : {A : Type 0} (x : A) (xs : List A) → (length (x ∷ xs) == 0) ≡ false
some x xs = ne_eqb (length (x ∷ xs)) 0 (λ e. absurd (omega arith))

-- a list without joins is empty
pub no_join : (js : List Join) → (length js == 0) ≡ is_no_join (joins_of (map join_view js))
no_join [] = refl
no_join (j ∷ js) = some j js

-- what an object is seen as
view_object : (ps : Vec ExprPair) → expr_view (Object ps) ≡ tree.object (pairs_of (map pair_view ps.items))
view_object ps = search (rules, agg.the_lemmas)

objects : (r : Renaming) (xs ys : List ExprPair) → is_alike_expr r (tree.object (pairs_of (map pair_view xs))) (tree.object (pairs_of (map pair_view ys))) ≡ ((length xs == 0) && (length ys == 0))
objects r [] [] = refl
objects r [] (y ∷ ys) = sym (some y ys)
objects r (x ∷ xs) ys = ap (λ b. b && (length ys == 0)) (sym (some x xs))

-- two objects are equal where both are empty
pub empty_objects : (r : Renaming) (one other : Expr) (xs ys : Vec ExprPair) → one ≡ Object xs → other ≡ Object ys
    → is_alike_expr r (expr_view one) (expr_view other) ≡ ((length xs.items == 0) && (length ys.items == 0))
empty_objects r one other xs ys h k =
    ap (λ e. is_alike_expr r (expr_view e) (expr_view other)) h ∙ ap (λ e. is_alike_expr r (expr_view (Object xs)) (expr_view e)) k
    ∙ ap (λ e. is_alike_expr r e (expr_view (Object ys))) (view_object xs) ∙ ap (is_alike_expr r (tree.object (pairs_of (map pair_view xs.items)))) (view_object ys) ∙ objects r xs.items ys.items
