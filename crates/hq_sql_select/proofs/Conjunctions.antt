-- AND in the order of what its conditions cost.
use Rattle.std.proofs.Common.{◌≡◌, ◌∙◌, ◌<◌, ◌+◌, ℕ, List, map, drop, length, get_or, refl, sym, ap, ap₂}
use Rattle.std.proofs.lemmas.List.{at_drop_more}
use Rattle.hq_model.specs.declared.truth.Truth.{Truth}
use Rattle.hq_model.specs.declared.truth.Truth.TheVariants.{Yes, No, Unknown}
use Rattle.hq_model.specs.Logic.{and3}
use Rattle.hq_sql_tree.specs.Tree.{PredTree, always, never, test, negation, all_of, any_of, exists, PredTrees, no_pred, pred, preds_of}
use Rattle.hq_sql_tree.specs.View.{pred_view}
use Rattle.hq_sql_tree.specs.declared.select.Pred.{Pred}
use Rattle.hq_sql_tree.specs.Meaning.{Scope, World, truth_at, all_true}
use Rattle.hq_sql_select.specs.Costs.{all_at, part_at}
use Rattle.hq_sql_select.specs.declared.costs.Cost.{Cost}
use Rattle.hq_sql_select.specs.declared.costs.Cost.TheVariants.{Plain, Nested, Rows}

pub and3_yes : (t : Truth) → and3 t Yes ≡ t
and3_yes Yes = refl
and3_yes No = refl
and3_yes Unknown = refl

and3_assoc : (a b c : Truth) → and3 (and3 a b) c ≡ and3 a (and3 b c)
and3_assoc Yes b c = refl
and3_assoc No b c = refl
and3_assoc Unknown Yes c = refl
and3_assoc Unknown No c = refl
and3_assoc Unknown Unknown Yes = refl
and3_assoc Unknown Unknown No = refl
and3_assoc Unknown Unknown Unknown = refl

and3_comm : (a b : Truth) → and3 a b ≡ and3 b a
and3_comm Yes Yes = refl
and3_comm Yes No = refl
and3_comm Yes Unknown = refl
and3_comm No Yes = refl
and3_comm No No = refl
and3_comm No Unknown = refl
and3_comm Unknown Yes = refl
and3_comm Unknown No = refl
and3_comm Unknown Unknown = refl

-- two ANDs beside one another
and3_both : (a x b y : Truth) → and3 (and3 a x) (and3 b y) ≡ and3 (and3 a b) (and3 x y)
and3_both a x b y =
    and3_assoc a x (and3 b y)
    ∙ ap (and3 a) (sym (and3_assoc x b y) ∙ ap (λ t. and3 t y) (and3_comm x b) ∙ and3_assoc b x y)
    ∙ sym (and3_assoc a b (and3 x y))

module _ (w : World) (n : Scope) where
  mutual
    -- a condition has one cost, or is opened
    part_is : (p : PredTree) → and3 (and3 (part_at Plain p w n) (part_at Nested p w n)) (part_at Rows p w n) ≡ truth_at p w n
    part_is always = refl
    part_is never = refl
    part_is (test e t es) = and3_yes (and3 (truth_at (test e t es) w n) Yes) ∙ and3_yes (truth_at (test e t es) w n)
    part_is (negation p) = and3_yes (truth_at (negation p) w n)
    part_is (any_of ps) = and3_yes (truth_at (any_of ps) w n)
    part_is (exists s) = refl
    part_is (all_of ps) = all_is ps

    -- AND of a list is that of its conditions by their costs, one cost after the other
    pub all_is : (ps : PredTrees) → and3 (and3 (all_at Plain ps w n) (all_at Nested ps w n)) (all_at Rows ps w n) ≡ all_true ps w n
    all_is no_pred = refl
    all_is (pred p ps) =
        ap (λ t. and3 t (and3 (part_at Rows p w n) (all_at Rows ps w n))) (and3_both (part_at Plain p w n) (all_at Plain ps w n) (part_at Nested p w n) (all_at Nested ps w n))
        ∙ and3_both (and3 (part_at Plain p w n) (part_at Nested p w n)) (and3 (all_at Plain ps w n) (all_at Nested ps w n)) (part_at Rows p w n) (all_at Rows ps w n)
        ∙ ap₂ and3 (part_is p) (all_is ps)

  -- one more condition of a list
  pub all_more : (cost : Cost) (ps : List Pred) (i : ℕ) (p : Pred) (all next whole : Truth) → i < length ps → p ≡ get_or ps i p
      → and3 all (all_at cost (preds_of (map pred_view (drop i ps))) w n) ≡ whole → next ≡ and3 all (part_at cost (pred_view p) w n)
      → and3 next (all_at cost (preds_of (map pred_view (drop (i + 1) ps))) w n) ≡ whole
  all_more cost ps i p all next whole inside is before now =
      let part = part_at cost (pred_view p) w n in
      let rest = all_at cost (preds_of (map pred_view (drop (i + 1) ps))) w n in
      let front : all_at cost (preds_of (map pred_view (drop i ps))) w n ≡ and3 part rest =
      at_drop_more (λ l. all_at cost (preds_of (map pred_view l)) w n) ps i p inside ∙ ap (λ q. and3 (part_at cost (pred_view q) w n) rest) (sym is) in
      ap (λ t. and3 t rest) now ∙ and3_assoc all part rest ∙ ap (and3 all) (sym front) ∙ before
