-- Conditions that ask a column to be in a range.
use Rattle.std.proofs.Common.{◌≡◌, ◌∙◌, ◌<◌, ℕ, List, [], ◌∷◌, ◌++◌, map, length, get_or, Bool, true, false, ◌==◌, ◌&&◌, refl, sym, ap, ap₂, subst, arith}
use Rattle.hq_base.proofs.Lists.{map_map}
use Rattle.hq_base.specs.Cells.{CellTree}
use Rattle.hq_load_index.specs.Keys.{cell_view}
use Rattle.hq_model.specs.Logic.{is_true}
use Rattle.hq_model.specs.Tests.{test_truth}
use Rattle.hq_model.specs.declared.test.Test.{Test}
use Rattle.hq_model.specs.declared.test.Test.TheVariants.{Compare}
use Rattle.hq_sql_access.specs.Equations.{is_column}
use Rattle.hq_sql_access.proofs.Asked.{all_member, column_value}
use Rattle.hq_sql_tree.specs.Meaning.{Scope as Names, cell_named, truth_at, value}
use Rattle.hq_sql_tree.specs.Tree as tree
use Rattle.hq_sql_tree.specs.Tree.{ExprTree, PredTree, preds_of}
use Rattle.hq_sql_tree.specs.View.{expr_view, pred_view}
use Rattle.hq_sql_tree.specs.declared.expr.Expr.{Expr}
use Rattle.hq_sql_tree.specs.declared.select.Pred.{Pred}
use Rattle.hq_sql_constants.specs.Ranged.{AsksAll, AsksBound, AsksRange, meets, meets_all}
use Rattle.hq_sql_constants.specs.declared.ranged.Bound.{Bound}

-- a test of a column by a constant asks it to meet that comparison
pub test_bounds : (own : ExprTree) (t : Test) (es : List Expr) (alias name : List ℕ) (b : Bound) → t ≡ Compare b.op → is_column alias name own ≡ true
    → ((m : Names) → map (λ e. value (expr_view e) [] m) es ≡ cell_view b.value ∷ []) → AsksBound (tree.test own t (map expr_view es)) alias name b
test_bounds own t es alias name b same is known =
    record {
      asks = λ w m holds.
          let c = value own [] m in
          let here : cell_named (m alias) name ≡ c = sym (column_value alias name own m is) in
          let one : map (λ e. value e [] m) (map expr_view es) ≡ cell_view b.value ∷ [] = map_map (λ e. value e [] m) expr_view es ∙ known m in
          ap (meets b) here ∙ ap is_true (ap₂ (λ u ds. test_truth u c ds) (sym same) (sym one) ∙ holds);
    }

-- nothing is asked
pub asks_nothing : (p : PredTree) (alias name : List ℕ) → AsksAll p alias name []
asks_nothing p alias name = record { asks = λ w m holds. refl }

meets_last : (bs : List Bound) (b : Bound) (c : CellTree) → meets_all bs c ≡ true → meets b c ≡ true → meets_all (bs ++ b ∷ []) c ≡ true
meets_last [] b c h e = ap (λ d. d && true) e
meets_last (a ∷ bs) b c h e =
    let go : (d : Bool) → (d && meets_all bs c) ≡ true → (d && meets_all (bs ++ b ∷ []) c) ≡ true = elim [ true ↦ λ k. meets_last bs b c k e | false ↦ λ k. k ] in
    go (meets a c) h

-- what a member of an And asks, the And asks too
pub asks_more : (ps : List Pred) (i : ℕ) (p : Pred) (alias name : List ℕ) (bs more : List Bound) (b : Bound) → i < length ps → p ≡ get_or ps i p
    → AsksAll (tree.all_of (preds_of (map pred_view ps))) alias name bs → AsksBound (pred_view p) alias name b → more ≡ bs ++ b ∷ []
    → AsksAll (tree.all_of (preds_of (map pred_view ps))) alias name more
asks_more ps i p alias name bs more b lt is so_far one grown =
    record {
      asks = λ w m holds.
          let c = cell_named (m alias) name in
          let member : truth_at (pred_view p) w m ≡ _ = ap (λ q. truth_at (pred_view q) w m) is ∙ all_member ps i p w m lt holds in
          ap (λ l. meets_all l c) grown ∙ meets_last bs b c (so_far.asks w m holds) (one.asks w m member);
    }

-- some are asked
pub asks_range : (p : PredTree) (alias name : List ℕ) (bs : List Bound) → 0 < length bs → AsksAll p alias name bs → AsksRange p alias name bs
asks_range p alias name bs some all = record { some = some; all = all }

pub some_asked : (p : PredTree) (alias name : List ℕ) (bs : List Bound) → (length bs == 0) ≡ false → AsksAll p alias name bs → AsksRange p alias name bs
some_asked p alias name [] e all = cc
some_asked p alias name (b ∷ bs) e all = record { some = omega arith; all = all }

-- one is asked
pub asks_one : (p : PredTree) (alias name : List ℕ) (b : Bound) (none bs : List Bound) → none ≡ [] → bs ≡ none ++ b ∷ [] → AsksBound p alias name b → AsksAll p alias name bs
asks_one p alias name b none bs empty is one =
    record { asks = λ w m holds. ap (λ l. meets_all l (cell_named (m alias) name)) (is ∙ ap (λ l. l ++ b ∷ []) empty) ∙ ap (λ d. d && true) (one.asks w m holds) }
