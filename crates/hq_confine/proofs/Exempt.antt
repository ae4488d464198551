-- Conjuncts that are exempt, and those that are not.
use Rattle.std.proofs.Common.{◌≡◌, ◌∙◌, List, [], ◌++◌, Bool, true, false, cond, None, refl, sym, ap}
use Rattle.hq_model.specs.Grants.{Grants}
use Rattle.hq_model.specs.Schema.{Schema}
use Rattle.hq_model.specs.declared.test.Test.{Test}
use Rattle.hq_sql_tree.specs.Tree as tree
use Rattle.hq_sql_tree.specs.Tree.{ExprTree, SelectTree, PredTree, PredTrees}
use Rattle.hq_confine_rules.specs.Faults.{conjunct_faults, pred_faults, preds_faults, select_faults, worst}
use Rattle.hq_confine_rules.specs.Origins.{Shapes}
use Rattle.hq_confine_rules.specs.Uses.{Fault, expr_faults, exprs_faults}

module _ (s : Schema) (g : Grants) (x : Shapes) (E : PredTree → Bool) where
  -- faults that count where a conjunct is not exempt
  by_test : (p q : PredTree) (b : Bool) (fs : List Fault) → p ≡ q → conjunct_faults s g x E q ≡ cond (E q) [] fs → E p ≡ b → worst (conjunct_faults s g x E p) ≡ worst (cond b [] fs)
  by_test p q b fs is so ex = ap (λ r. worst (conjunct_faults s g x E r)) is ∙ ap worst so ∙ ap (λ c. worst (cond c [] fs)) (ap E (sym is) ∙ ex)

  pub test_exempt : (p : PredTree) (e : ExprTree) (t : Test) (es : List ExprTree) → p ≡ tree.test e t es → E p ≡ true → None ≡ worst (conjunct_faults s g x E p)
  test_exempt p e t es is ex = sym (by_test p (tree.test e t es) true (expr_faults s g x e ++ exprs_faults s g x es) is refl ex)

  pub test_counts : (p : PredTree) (e : ExprTree) (t : Test) (es : List ExprTree) → p ≡ tree.test e t es → E p ≡ false
      → worst (expr_faults s g x e ++ exprs_faults s g x es) ≡ worst (conjunct_faults s g x E p)
  test_counts p e t es is ex = sym (by_test p (tree.test e t es) false (expr_faults s g x e ++ exprs_faults s g x es) is refl ex)

  pub not_exempt : (p q : PredTree) → p ≡ tree.negation q → E p ≡ true → None ≡ worst (conjunct_faults s g x E p)
  not_exempt p q is ex = sym (by_test p (tree.negation q) true (pred_faults s g x q) is refl ex)

  pub not_counts : (p q : PredTree) → p ≡ tree.negation q → E p ≡ false → worst (pred_faults s g x q) ≡ worst (conjunct_faults s g x E p)
  not_counts p q is ex = sym (by_test p (tree.negation q) false (pred_faults s g x q) is refl ex)

  pub or_exempt : (p : PredTree) (qs : PredTrees) → p ≡ tree.any_of qs → E p ≡ true → None ≡ worst (conjunct_faults s g x E p)
  or_exempt p qs is ex = sym (by_test p (tree.any_of qs) true (preds_faults s g x qs) is refl ex)

  pub or_counts : (p : PredTree) (qs : PredTrees) → p ≡ tree.any_of qs → E p ≡ false → worst (preds_faults s g x qs) ≡ worst (conjunct_faults s g x E p)
  or_counts p qs is ex = sym (by_test p (tree.any_of qs) false (preds_faults s g x qs) is refl ex)

  pub exists_exempt : (p : PredTree) (q : SelectTree) → p ≡ tree.exists q → E p ≡ true → None ≡ worst (conjunct_faults s g x E p)
  exists_exempt p q is ex = sym (by_test p (tree.exists q) true (select_faults s g x false q) is refl ex)

  pub exists_counts : (p : PredTree) (q : SelectTree) → p ≡ tree.exists q → E p ≡ false → worst (select_faults s g x false q) ≡ worst (conjunct_faults s g x E p)
  exists_counts p q is ex = sym (by_test p (tree.exists q) false (select_faults s g x false q) is refl ex)
