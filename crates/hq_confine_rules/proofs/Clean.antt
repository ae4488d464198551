-- Conditions and WHEREs without faults.
use Rattle.std.proofs.Common.{◌≡◌, List, [], ◌∷◌, ◌++◌, Bool, true, false, cond, refl, sym, ap, ◌∙◌, append-nil}
use Rattle.hq_base.specs.Lists.{Each}
use Rattle.hq_model.specs.Grants.{Grants}
use Rattle.hq_model.specs.Schema.{Schema}
use Rattle.hq_model.specs.Tests.{arity, is_of_nothing}
use Rattle.hq_model.specs.declared.bexp.Operand.{Operand}
use Rattle.hq_model.specs.declared.bexp.Operand.TheVariants.{Const, Session}
use Rattle.hq_base.specs.declared.value.Ty.{Ty}
use Rattle.hq_base.specs.declared.value.Val.{Val}
use Rattle.hq_base.specs.declared.value.Val.TheVariants as val
use Rattle.hq_model.specs.declared.test.Arity.{Arity}
use Rattle.hq_model.specs.declared.test.Arity.TheVariants.{Nothing, One, Many}
use Rattle.hq_model.specs.declared.test.Test.{Test}
use Rattle.hq_sql_tree.specs.Tree as tree
use Rattle.hq_sql_tree.specs.Tree.{ExprTree, PredTree, PredTrees, preds_of}
use Rattle.hq_translation.proofs.TextLiterals.{of_either}
use Rattle.hq_translation.specs.Conditions.{literal, operand_literal, joined_by_and, joined_by_or, with_member, where_of, negation_if, literals_for, test_of}
use Rattle.hq_confine_rules.specs.Conjuncts.{opened, all_opened, conjuncts}
use Rattle.hq_confine_rules.specs.Origins.{Shapes}
use Rattle.hq_confine_rules.specs.Uses.{Fault, expr_faults, exprs_faults}
use Rattle.hq_confine_rules.specs.Faults.{where_faults, conjunct_faults, conjuncts_faults, pred_faults, preds_faults}

-- two lists without faults
pub none : (xs ys : List Fault) → xs ≡ [] → ys ≡ [] → xs ++ ys ≡ []
none xs ys e f = rw (e, f) refl

pub left_none : (xs ys : List Fault) → xs ++ ys ≡ [] → xs ≡ []
left_none [] ys h = refl
left_none (x ∷ xs) ys h = cc

pub right_none : (xs ys : List Fault) → xs ++ ys ≡ [] → ys ≡ []
right_none [] ys h = h
right_none (x ∷ xs) ys h = cc

each_append : (P : PredTree → Type 0) (xs ys : List PredTree) → Each P xs → Each P ys → Each P (xs ++ ys)
each_append P [] ys h g = g
each_append P (x ∷ xs) ys h g = (h.0, each_append P xs ys h.1 g)

each_left : (P : PredTree → Type 0) (xs ys : List PredTree) → Each P (xs ++ ys) → Each P xs
each_left P [] ys h = tt
each_left P (x ∷ xs) ys h = (h.0, each_left P xs ys h.1)

each_right : (P : PredTree → Type 0) (xs ys : List PredTree) → Each P (xs ++ ys) → Each P ys
each_right P [] ys h = h
each_right P (x ∷ xs) ys h = each_right P xs ys h.1

module _ (s : Schema) (g : Grants) (scope : Shapes) where
  abbrev pub IsClean : PredTree → Type 0
  IsClean p = pred_faults s g scope p ≡ []

  list_clean : (ps : List PredTree) → Each IsClean ps → preds_faults s g scope (preds_of ps) ≡ []
  list_clean [] h = refl
  list_clean (p ∷ ps) h = rw h.0 (list_clean ps h.1)

  pub and_clean : (ps : List PredTree) → Each IsClean ps → IsClean (joined_by_and ps)
  and_clean [] h = refl
  and_clean (p ∷ []) h = h.0
  and_clean (p ∷ (q ∷ ps)) h = list_clean (p ∷ (q ∷ ps)) h

  pub or_clean : (ps : List PredTree) → Each IsClean ps → IsClean (joined_by_or ps)
  or_clean [] h = refl
  or_clean (p ∷ []) h = h.0
  or_clean (p ∷ (q ∷ ps)) h = list_clean (p ∷ (q ∷ ps)) h

  -- ---- tests

  literal_clean : (ty : Ty) (v : Val) → expr_faults s g scope (literal ty v) ≡ []
  literal_clean ty val.Null = refl
  literal_clean ty (val.Int n) = refl
  literal_clean ty (val.Text t) = of_either (λ e. expr_faults s g scope e ≡ []) ty t refl refl
  literal_clean ty (val.Bool b) = refl

  operand_clean : (ty : Ty) (v : Operand) → expr_faults s g scope (operand_literal ty v) ≡ []
  operand_clean ty (Const v) = literal_clean ty v
  operand_clean ty (Session name) = refl

  operands_clean : (ty : Ty) (vs : List Operand) → exprs_faults s g scope (literals_for ty Many vs) ≡ []
  operands_clean ty [] = refl
  operands_clean ty (v ∷ vs) = rw (operand_clean ty v) (operands_clean ty vs)

  literals_clean : (ty : Ty) (k : Arity) (vs : List Operand) → exprs_faults s g scope (literals_for ty k vs) ≡ []
  literals_clean ty Nothing vs = refl
  literals_clean ty One [] = refl
  literals_clean ty One (v ∷ vs) = rw (operand_clean ty v) refl
  literals_clean ty Many vs = operands_clean ty vs

  pub test_clean : (ty : Ty) (e : ExprTree) (t : Test) (vs : List Operand) (negated : Bool) → (is_of_nothing t vs ≡ false → expr_faults s g scope e ≡ []) → IsClean (test_of ty e t vs negated)
  test_clean ty e t vs negated h =
      let turned : (b : Bool) → expr_faults s g scope e ≡ [] → IsClean (negation_if b (tree.test e t (literals_for ty (arity t) vs))) =
      elim [ true ↦ λ k. none _ _ k (literals_clean ty (arity t) vs) | false ↦ λ k. none _ _ k (literals_clean ty (arity t) vs) ] in
      let nothing : (b : Bool) → IsClean (cond b tree.always tree.never) = elim [ true ↦ refl | false ↦ refl ] in
      let done : (b : Bool) → is_of_nothing t vs ≡ b → IsClean (cond b (cond negated tree.always tree.never) (negation_if negated (tree.test e t (literals_for ty (arity t) vs)))) =
      elim [ true ↦ λ k. nothing negated | false ↦ λ k. turned negated (h k) ] in
      done (is_of_nothing t vs) refl

  -- ---- conjuncts

  module _ (ex : PredTree → Bool) where
    abbrev pub IsFree : PredTree → Type 0
    IsFree p = conjunct_faults s g scope ex p ≡ []

    unless : (b : Bool) (fs : List Fault) → fs ≡ [] → cond b [] fs ≡ []
    unless true fs h = refl
    unless false fs h = h

    mutual
      -- a condition without faults has none that are not exempt
      pub clean_free : (p : PredTree) → IsClean p → IsFree p
      clean_free tree.always h = refl
      clean_free tree.never h = refl
      clean_free (tree.test e t es) h = unless (ex (tree.test e t es)) _ h
      clean_free (tree.negation p) h = unless (ex (tree.negation p)) _ h
      clean_free (tree.all_of ps) h = clean_frees ps h
      clean_free (tree.any_of ps) h = unless (ex (tree.any_of ps)) _ h
      clean_free (tree.exists q) h = unless (ex (tree.exists q)) _ h

      clean_frees : (ps : PredTrees) → preds_faults s g scope ps ≡ [] → conjuncts_faults s g scope ex ps ≡ []
      clean_frees tree.no_pred h = refl
      clean_frees (tree.pred p ps) h =
          none (conjunct_faults s g scope ex p) (conjuncts_faults s g scope ex ps)
          (clean_free p (left_none (pred_faults s g scope p) (preds_faults s g scope ps) h))
          (clean_frees ps (right_none (pred_faults s g scope p) (preds_faults s g scope ps) h))

    mutual
      -- nor has one whose conjuncts are all exempt
      pub exempt_free : (p : PredTree) → Each (λ c. ex c ≡ true) (opened p) → IsFree p
      exempt_free tree.always h = refl
      exempt_free tree.never h = refl
      exempt_free (tree.test e t es) h = rw h.0 refl
      exempt_free (tree.negation p) h = rw h.0 refl
      exempt_free (tree.all_of ps) h = exempt_frees ps h
      exempt_free (tree.any_of ps) h = rw h.0 refl
      exempt_free (tree.exists q) h = rw h.0 refl

      exempt_frees : (ps : PredTrees) → Each (λ c. ex c ≡ true) (all_opened ps) → conjuncts_faults s g scope ex ps ≡ []
      exempt_frees tree.no_pred h = refl
      exempt_frees (tree.pred p ps) h =
          none (conjunct_faults s g scope ex p) (conjuncts_faults s g scope ex ps)
          (exempt_free p (each_left (λ c. ex c ≡ true) (opened p) (all_opened ps) h))
          (exempt_frees ps (each_right (λ c. ex c ≡ true) (opened p) (all_opened ps) h))

    list_free : (ps : List PredTree) → Each IsFree ps → conjuncts_faults s g scope ex (preds_of ps) ≡ []
    list_free [] h = refl
    list_free (p ∷ ps) h = rw h.0 (list_free ps h.1)

    where_free : (ps : List PredTree) → Each IsFree ps → where_faults s g scope ex (where_of ps) ≡ []
    where_free [] h = refl
    where_free (p ∷ []) h = h.0
    where_free (p ∷ (q ∷ ps)) h = list_free (p ∷ (q ∷ ps)) h

    member_free : (p : PredTree) (ps : List PredTree) → IsFree p → Each IsFree ps → Each IsFree (with_member p ps)
    member_free tree.always ps e h = h
    member_free tree.never ps e h = (e, h)
    member_free (tree.test x t xs) ps e h = (e, h)
    member_free (tree.negation p) ps e h = (e, h)
    member_free (tree.all_of qs) ps e h = (e, h)
    member_free (tree.any_of qs) ps e h = (e, h)
    member_free (tree.exists q) ps e h = (e, h)

    pub three_free : (a b c : PredTree) → IsFree a → IsFree b → IsFree c → where_faults s g scope ex (where_of (with_member a (with_member b (with_member c [])))) ≡ []
    three_free a b c e f h =
        where_free (with_member a (with_member b (with_member c [])))
        (member_free a (with_member b (with_member c [])) e (member_free b (with_member c []) f (member_free c [] h tt)))

    pub two_free : (a b : PredTree) → IsFree a → IsFree b → where_faults s g scope ex (where_of (with_member a (with_member b []))) ≡ []
    two_free a b e f = where_free (with_member a (with_member b [])) (member_free a (with_member b []) e (member_free b [] f tt))

-- ---- the conjuncts of a WHERE

abbrev all_of_lists : List PredTree → List PredTree
all_of_lists [] = []
all_of_lists (p ∷ ps) = opened p ++ all_of_lists ps

opened_list : (ps : List PredTree) → all_opened (preds_of ps) ≡ all_of_lists ps
opened_list [] = refl
opened_list (p ∷ ps) = ap (λ l. opened p ++ l) (opened_list ps)

opened_where : (ps : List PredTree) → conjuncts (where_of ps) ≡ all_of_lists ps
opened_where [] = refl
opened_where (p ∷ []) = sym (append-nil (opened p))
opened_where (p ∷ (q ∷ ps)) = opened_list (p ∷ (q ∷ ps))

opened_member : (p : PredTree) (ps : List PredTree) → all_of_lists (with_member p ps) ≡ opened p ++ all_of_lists ps
opened_member tree.always ps = refl
opened_member tree.never ps = refl
opened_member (tree.test x t xs) ps = refl
opened_member (tree.negation p) ps = refl
opened_member (tree.all_of qs) ps = refl
opened_member (tree.any_of qs) ps = refl
opened_member (tree.exists q) ps = refl

pub where_conjuncts : (a b c : PredTree) → conjuncts (where_of (with_member a (with_member b (with_member c [])))) ≡ opened a ++ (opened b ++ (opened c ++ []))
where_conjuncts a b c =
    opened_where (with_member a (with_member b (with_member c []))) ∙ opened_member a (with_member b (with_member c []))
    ∙ ap (λ l. opened a ++ l) (opened_member b (with_member c []) ∙ ap (λ l. opened b ++ l) (opened_member c []))

pub where_pair : (a b : PredTree) → conjuncts (where_of (with_member a (with_member b []))) ≡ opened a ++ (opened b ++ [])
where_pair a b = opened_where (with_member a (with_member b [])) ∙ opened_member a (with_member b []) ∙ ap (λ l. opened a ++ l) (opened_member b [])

pub where_one : (a : PredTree) → conjuncts (where_of (with_member a [])) ≡ opened a ++ []
where_one a = opened_where (with_member a []) ∙ opened_member a []
