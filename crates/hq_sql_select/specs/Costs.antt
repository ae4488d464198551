-- AND over those of its conditions that have one cost, with the ANDs among them opened.
use Rattle.std.specs.Prelude.{ℕ, ◌+◌, map}
use Rattle.hq_model.specs.Logic.{and3}
use Rattle.hq_model.specs.declared.truth.Truth.{Truth}
use Rattle.hq_model.specs.declared.truth.Truth.TheVariants.{Yes}
use Rattle.hq_sql_conjuncts.specs.Weight.{total, pred_weight}
use Rattle.hq_sql_tree.specs.Tree.{PredTree, negation, all_of, any_of, exists, PredTrees, no_pred, pred, preds_of}
use Rattle.hq_sql_tree.specs.View.{pred_view}
use Rattle.hq_sql_tree.specs.Meaning.{Scope as Names, World, truth_at}
use Rattle.hq_sql_select.specs.declared.costs.Cost.{Cost}
use Rattle.hq_sql_select.specs.declared.costs.Cost.TheVariants.{Plain, Nested, Rows}
use Rattle.hq_sql_select.specs.declared.costs.Conjunct.{Conjunct}
use Rattle.hq_sql_select.specs.declared.costs.Conjunct.TheVariants.{Opened, Tried, Other}

-- what a truth of one cost brings where those of another one are asked for: no more than true, where they differ
abbrev pub brought : (own cost : Cost) → Truth → Truth
brought Plain Plain t = t
brought Nested Nested t = t
brought Rows Rows t = t
brought _ _ t = Yes

abbrev mutual
  -- AND of those of a list that have this cost
  pub all_at : Cost → PredTrees → World → Names → Truth
  all_at cost no_pred world names = Yes
  all_at cost (pred p ps) world names = and3 (part_at cost p world names) (all_at cost ps world names)

  -- what a condition brings to it
  pub part_at : Cost → PredTree → World → Names → Truth
  part_at cost (all_of ps) world names = all_at cost ps world names
  part_at cost (exists select) world names = brought Rows cost (truth_at (exists select) world names)
  part_at cost (negation p) world names = brought Nested cost (truth_at (negation p) world names)
  part_at cost (any_of ps) world names = brought Nested cost (truth_at (any_of ps) world names)
  part_at cost p world names = brought Plain cost (truth_at p world names)

-- what becomes of a condition, as its truth
abbrev pub conjunct_truth : Cost → Conjunct → World → Names → Truth
conjunct_truth cost (Opened ps) world names = all_at cost (preds_of (map pred_view ps.now.items)) world names
conjunct_truth cost (Tried p) world names = truth_at (pred_view p.now) world names
conjunct_truth cost Other world names = Yes

-- and how much there is to evaluate in it
abbrev pub conjunct_weight : Conjunct → ℕ
conjunct_weight (Opened ps) = 2 + total (map pred_weight ps.now.items)
conjunct_weight (Tried p) = pred_weight p.now
conjunct_weight Other = 0
