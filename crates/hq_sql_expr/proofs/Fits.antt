-- Expressions whose spelling opens at most so many parentheses at once, as one relation.
use Rattle.std.proofs.Common.{◌≡◌, ℕ, zero, suc, true}
use Rattle.hq_sql_tree.specs.Tree as tree
use Rattle.hq_sql_tree.specs.Tree.{ExprTree, PairTrees, AggTree, OrderTrees}
use Rattle.hq_sql_tree.specs.Form.{is_text, is_bigint}

abbrev pub AtLeastOne : OrderTrees → Type 0
AtLeastOne tree.no_order = ⊥
AtLeastOne (tree.order e desc nulls_first os) = Unit {0}

abbrev mutual
  pub FitsExpr : ExprTree → ℕ → Type 0
  FitsExpr (tree.column alias name form) d = (is_text alias ≡ true) × (is_text name ≡ true)
  FitsExpr (tree.int n) d = is_bigint n ≡ true
  FitsExpr (tree.text bytes) d = is_text bytes ≡ true
  FitsExpr (tree.uuid bytes) d = is_text bytes ≡ true
  FitsExpr (tree.bool b) d = Unit {0}
  FitsExpr (tree.object ps) zero = ⊥
  FitsExpr (tree.object ps) (suc d) = FitsPairs ps d
  FitsExpr (tree.aggregate a) zero = ⊥
  FitsExpr (tree.aggregate a) (suc d) = FitsAgg a d

  pub FitsPairs : PairTrees → ℕ → Type 0
  FitsPairs tree.no_pair d = Unit {0}
  FitsPairs (tree.pair name e ps) d = (is_text name ≡ true) × FitsExpr e d × FitsPairs ps d

  pub FitsAgg : AggTree → ℕ → Type 0
  FitsAgg tree.count_all d = Unit {0}
  FitsAgg (tree.count e distinct) d = FitsExpr e d
  FitsAgg (tree.take a e) d = FitsExpr e d
  FitsAgg (tree.json_agg e os) zero = ⊥
  FitsAgg (tree.json_agg e os) (suc d) = AtLeastOne os × FitsExpr e d × FitsOrders os d

  pub FitsOrders : OrderTrees → ℕ → Type 0
  FitsOrders tree.no_order d = Unit {0}
  FitsOrders (tree.order e desc nulls_first os) d = FitsExpr e d × FitsOrders os d
