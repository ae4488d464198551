-- The conjuncts of a condition: WHERE keeps a row where each of them is true.
use Rattle.std.specs.Prelude.{ℕ, List, [], ◌∷◌, map, Bool, true, ◌&&◌}
use Rattle.std.specs.Borrow.{Bor}
use Rattle.hq_sql_tree.specs.declared.select.Pred.{Pred}
use Rattle.hq_sql_tree.specs.Meaning.{World, Scope, truth_at}
use Rattle.hq_sql_tree.specs.Tree.{PredTree}
use Rattle.hq_sql_tree.specs.View.{pred_view}
use Rattle.hq_model.specs.Logic.{is_true}
use Rattle.hq_sql_conjuncts.specs.Closed.{is_closed}
use Rattle.hq_sql_conjuncts.specs.Weight.{total, pred_weight}

-- whether each of these is true
abbrev pub all_kept : List PredTree → World → Scope → Bool
all_kept [] world scope = true
all_kept (p ∷ ps) world scope = is_true (truth_at p world scope) && all_kept ps world scope

-- whether each of these mentions no alias but these
abbrev pub all_closed : List (List ℕ) → List PredTree → Bool
all_closed names [] = true
all_closed names (p ∷ ps) = is_closed names p && all_closed names ps

-- conditions that are lent
abbrev pub lent_views : List (Bor Pred) → List PredTree
lent_views ps = map (λ p. pred_view p.now) ps

abbrev pub lent_weight : List (Bor Pred) → ℕ
lent_weight ps = total (map (λ p. pred_weight p.now) ps)
