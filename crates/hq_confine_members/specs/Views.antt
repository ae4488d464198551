-- What values of the code stand for.
use Rattle.std.specs.Borrow.{Bor}
use Rattle.std.specs.Prelude.{List, [], ◌∷◌, map}
use Rattle.hq_sql_tree.specs.Tree.{PredTree}
use Rattle.hq_sql_tree.specs.View.{pred_view}
use Rattle.hq_sql_tree.specs.declared.select.Pred.{Pred}
use Rattle.hq_confine_rules.specs.Members.{Equation}
use Rattle.hq_confine_rules.specs.Renamed.{Renaming}
use Rattle.hq_confine_members.specs.declared.alike.Renaming as renaming
use Rattle.hq_confine_members.specs.declared.links.Equation as equation

-- conditions that are lent
abbrev pub preds_view : List (Bor Pred) → List PredTree
preds_view = map (λ p. pred_view p.now)

abbrev pub renaming_view : renaming.Renaming → Renaming
renaming_view renaming.Nothing = []
renaming_view (renaming.Beside' one other p outer) = (one.now, other.now) ∷ renaming_view outer

abbrev pub equation_view : equation.Equation → Equation
equation_view q = record { remote_alias = q.remote_alias.now; remote_name = q.remote_name.now; own_alias = q.own_alias.now; own_name = q.own_name.now }
