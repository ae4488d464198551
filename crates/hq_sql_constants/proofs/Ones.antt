-- Conditions that ask a column to be one of constants.
use Rattle.std.proofs.Common.{◌≡◌, ◌∙◌, ◌<◌, ◌+◌, ℕ, List, [], ◌∷◌, ◌++◌, map, length, get_or, take, Bool, true, false, ◌||◌, Option, None, Some, refl, sym, ap, ap₂, subst, add-one}
use Rattle.std.specs.Prelude.{IfSome}
use Rattle.std.specs.List.{list_any}
use Rattle.std.proofs.Math.Seq.{take-suc}
use Rattle.std.proofs.lemmas.List.{map-append}
use Rattle.hq_base.specs.Cells.{CellTree, null, int, text, bool, json, cell_of}
use Rattle.hq_base.specs.declared.value.Val.{Val}
use Rattle.hq_base.proofs.Lists.{any_map_of, map_map}
use Rattle.hq_model.specs.Logic.{or3, equal, among, is_true}
use Rattle.hq_model.specs.Tests.{test_truth}
use Rattle.hq_model.specs.declared.test.Test.{Test}
use Rattle.hq_model.specs.declared.test.Test.TheVariants.{Among, Compare}
use Rattle.hq_model.specs.declared.op.Op.TheVariants.{Eq}
use Rattle.hq_model.specs.declared.truth.Truth.{Truth}
use Rattle.hq_model.specs.declared.truth.Truth.TheVariants.{Yes, No, Unknown}
use Rattle.hq_sql_access.specs.Equations.{is_column}
use Rattle.hq_sql_access.proofs.Asked.{all_member, column_value}
use Rattle.hq_sql_tree.specs.Meaning.{Scope as Names, World, any_true, cell_named, truth_at, value}
use Rattle.hq_sql_tree.specs.Tree as tree
use Rattle.hq_sql_tree.specs.Tree.{ExprTree, PredTree, preds_of}
use Rattle.hq_sql_tree.specs.View.{expr_view, pred_view}
use Rattle.hq_sql_tree.specs.declared.expr.Expr.{Expr}
use Rattle.hq_sql_tree.specs.declared.select.Pred.{Pred}
use Rattle.hq_sql_constants.specs.Listed.{AsksOneOf, IsOfOne, is_one_of}
use Rattle.hq_sql_constants.specs.declared.listed.Listed.{Listed}

-- ---- tests

unknown_yes : (t : Truth) → or3 Unknown t ≡ Yes → t ≡ Yes
unknown_yes Yes e = refl
unknown_yes No e = cc
unknown_yes Unknown e = cc

among_one : (c : CellTree) (ds : List CellTree) → among ds c ≡ Yes → list_any (λ d. is_true (equal c d)) ds ≡ true
among_one c [] e = cc
among_one c (d ∷ ds) e =
    let go : (t : Truth) → or3 t (among ds c) ≡ Yes → (is_true t || list_any (λ d. is_true (equal c d)) ds) ≡ true =
    elim [ Yes ↦ λ g. refl | No ↦ λ g. among_one c ds g | Unknown ↦ λ g. among_one c ds (unknown_yes (among ds c) g) ] in
    go (equal c d) e

-- IN is true only of what equals one of its operands
pub among_is : IsOfOne Among
among_is = record { one = among_one }

equals_none : (c : CellTree) → equal c null ≡ Yes → false ≡ true
equals_none null e = cc
equals_none (int n) e = cc
equals_none (text t) e = cc
equals_none (bool b) e = cc
equals_none (json j) e = cc

equals_first : (c : CellTree) (ds : List CellTree) → test_truth (Compare Eq) c ds ≡ Yes → list_any (λ d. is_true (equal c d)) ds ≡ true
equals_first c [] e = equals_none c e
equals_first c (d ∷ ds) e = ap (λ t. is_true t || list_any (λ d. is_true (equal c d)) ds) e

-- an equation is true only of what equals its operand
pub equation_is : IsOfOne (Compare Eq)
equation_is = record { one = equals_first }

-- ---- constants

-- one constant more
pub constants_more : (exprs : List Expr) (i : ℕ) (e : Expr) (values : List Val) (v : Val) (m : Names) → i < length exprs → e ≡ get_or exprs i e
    → map (λ e. value (expr_view e) [] m) (take i exprs) ≡ map cell_of values → value (expr_view e) [] m ≡ cell_of v
    → map (λ e. value (expr_view e) [] m) (take (i + 1) exprs) ≡ map cell_of (values ++ v ∷ [])
constants_more exprs i e values v m lt is h k =
    let f : Expr → CellTree = λ e. value (expr_view e) [] m in
    let longer : take (i + 1) exprs ≡ take i exprs ++ e ∷ [] = ap (λ n. take n exprs) (add-one i) ∙ take-suc exprs i e lt ∙ ap (λ d. take i exprs ++ d ∷ []) (sym is) in
    ap (map f) longer ∙ map-append f (take i exprs) (e ∷ []) ∙ ap₂ (λ xs x. xs ++ x ∷ []) h k ∙ sym (map-append cell_of values (v ∷ []))

-- a test of a column asks it to be one of its constants
pub test_asks : (w : World) (own : ExprTree) (t : Test) (es : List Expr) (alias name : List ℕ) (vs : List Val) → IsOfOne t
    → is_column alias name own ≡ true → ((m : Names) → map (λ e. value (expr_view e) [] m) es ≡ map cell_of vs)
    → AsksOneOf w (tree.test own t (map expr_view es)) alias name vs
test_asks w own t es alias name vs one is known =
    record {
      asks = λ m holds.
          let c = value own [] m in
          let ds = map (λ e. value e [] m) (map expr_view es) in
          let same : ds ≡ map cell_of vs = map_map (λ e. value e [] m) expr_view es ∙ known m in
          let cell : cell_named (m alias) name ≡ c = sym (column_value alias name own m is) in
          ap (is_one_of vs) cell ∙ sym (any_map_of (λ d. is_true (equal c d)) cell_of vs) ∙ ap (list_any (λ d. is_true (equal c d))) (sym same) ∙ one.one c ds holds;
    }

-- the constants of a column that are handed on
pub listed_asks : (w : World) (p : PredTree) (alias name : List ℕ) (vs : List Val) (o : Option Listed) → AsksOneOf w p alias name vs
    → IfSome o (λ l. (l.name.now ≡ name) × (l.values.items ≡ vs)) → IfSome o (λ l. AsksOneOf w p alias l.name.now l.values.items)
listed_asks w p alias name vs None asks h = h
listed_asks w p alias name vs (Some l) asks h = subst (λ n. AsksOneOf w p alias n l.values.items) (sym h.0) (subst (AsksOneOf w p alias name) (sym h.1) asks)

-- ---- OR and AND

-- an OR of nothing is never true
pub asks_none : (w : World) (alias name : List ℕ) → AsksOneOf w (tree.any_of tree.no_pred) alias name []
asks_none w alias name = record { asks = λ m holds. cc }

either : (x y : Truth) (b c : Bool) → or3 x y ≡ Yes → (x ≡ Yes → b ≡ true) → (y ≡ Yes → c ≡ true) → (b || c) ≡ true
either Yes y b c e f g = rw (f refl) refl
either No y true c e f g = refl
either No y false c e f g = g e
either Unknown y true c e f g = refl
either Unknown y false c e f g = g (unknown_yes y e)

or_assoc : (a b c : Bool) → ((a || b) || c) ≡ (a || (b || c))
or_assoc true b c = refl
or_assoc false b c = refl

pub or_false : (a : Bool) → (a || false) ≡ a
or_false true = refl
or_false false = refl

pub any_append : {A : Type 0} (p : A → Bool) (xs ys : List A) → list_any p (xs ++ ys) ≡ (list_any p xs || list_any p ys)
any_append p [] ys = refl
any_append p (x ∷ xs) ys = ap (λ b. p x || b) (any_append p xs ys) ∙ sym (or_assoc (p x) (list_any p xs) (list_any p ys))

or3_assoc : (x y z : Truth) → or3 x (or3 y z) ≡ or3 (or3 x y) z
or3_assoc Yes y z = refl
or3_assoc No y z = refl
or3_assoc Unknown Yes z = refl
or3_assoc Unknown No Yes = refl
or3_assoc Unknown No No = refl
or3_assoc Unknown No Unknown = refl
or3_assoc Unknown Unknown Yes = refl
or3_assoc Unknown Unknown No = refl
or3_assoc Unknown Unknown Unknown = refl

or3_no : (x : Truth) → or3 x No ≡ x
or3_no Yes = refl
or3_no No = refl
or3_no Unknown = refl

any_last : (ps : List Pred) (p : Pred) (w : World) (m : Names) → any_true (preds_of (map pred_view (ps ++ p ∷ []))) w m ≡ or3 (any_true (preds_of (map pred_view ps)) w m) (truth_at (pred_view p) w m)
any_last [] p w m = or3_no (truth_at (pred_view p) w m)
any_last (q ∷ qs) p w m = ap (or3 (truth_at (pred_view q) w m)) (any_last qs p w m) ∙ or3_assoc (truth_at (pred_view q) w m) (any_true (preds_of (map pred_view qs)) w m) (truth_at (pred_view p) w m)

-- one member more
pub asks_more : (w : World) (ps : List Pred) (i : ℕ) (p : Pred) (alias name : List ℕ) (vs more : List Val) → i < length ps → p ≡ get_or ps i p
    → AsksOneOf w (tree.any_of (preds_of (map pred_view (take i ps)))) alias name vs → AsksOneOf w (pred_view p) alias name more
    → AsksOneOf w (tree.any_of (preds_of (map pred_view (take (i + 1) ps)))) alias name (vs ++ more)
asks_more w ps i p alias name vs more lt is so_far one =
    let longer : take (i + 1) ps ≡ take i ps ++ p ∷ [] = ap (λ n. take n ps) (add-one i) ∙ take-suc ps i p lt ∙ ap (λ d. take i ps ++ d ∷ []) (sym is) in
    record {
      asks = λ m holds.
          let c = cell_named (m alias) name in
          let both : or3 (any_true (preds_of (map pred_view (take i ps))) w m) (truth_at (pred_view p) w m) ≡ Yes =
          sym (any_last (take i ps) p w m) ∙ ap (λ l. any_true (preds_of (map pred_view l)) w m) (sym longer) ∙ holds in
          any_append (λ v. is_true (equal c (cell_of v))) vs more
          ∙ either (any_true (preds_of (map pred_view (take i ps))) w m) (truth_at (pred_view p) w m) (is_one_of vs c) (is_one_of more c)
          both (so_far.asks m) (one.asks m);
    }

-- what a member of an And asks, the And asks
pub asks_member : (w : World) (ps : List Pred) (i : ℕ) (p : Pred) (alias name : List ℕ) (vs : List Val) → i < length ps → p ≡ get_or ps i p
    → AsksOneOf w (pred_view p) alias name vs → AsksOneOf w (tree.all_of (preds_of (map pred_view ps))) alias name vs
asks_member w ps i p alias name vs lt is one = record { asks = λ m holds. one.asks m (ap (λ q. truth_at (pred_view q) w m) is ∙ all_member ps i p w m lt holds) }
