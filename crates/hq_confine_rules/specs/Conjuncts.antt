-- The conjuncts of a condition: its members, after nested ANDs are opened. TRUE says nothing, and is none.
use Rattle.std.specs.Prelude.{List, [], ◌∷◌, ◌++◌}
use Rattle.hq_sql_tree.specs.Tree.{FilterTree, no_filter, filter, PredTree, always, never, test, negation, all_of, any_of, exists, PredTrees, no_pred, pred}

abbrev mutual
  pub opened : PredTree → List PredTree
  opened always = []
  opened never = never ∷ []
  opened (test e t es) = test e t es ∷ []
  opened (negation p) = negation p ∷ []
  opened (all_of ps) = all_opened ps
  opened (any_of ps) = any_of ps ∷ []
  opened (exists s) = exists s ∷ []

  pub all_opened : PredTrees → List PredTree
  all_opened no_pred = []
  all_opened (pred p ps) = opened p ++ all_opened ps

-- those of a WHERE
abbrev pub conjuncts : FilterTree → List PredTree
conjuncts no_filter = []
conjuncts (filter p) = opened p
