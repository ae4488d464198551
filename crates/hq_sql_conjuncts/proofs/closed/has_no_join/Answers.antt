use Rattle.std.proofs.Common.{◌≡◌, ◌==◌, List, [], ◌∷◌, map, length, refl, ap, ◌∙◌, arith}
use Rattle.std.proofs.lemmas.Bool.{ne_eqb}
use Rattle.hq_sql_tree.specs.declared.select.Join.{Join}
use Rattle.hq_sql_tree.specs.Tree.{joins_of}
use Rattle.hq_sql_tree.specs.View.{join_view}
use Rattle.hq_sql_tree.specs.Form.{is_no_join}
use Rattle.hq_sql_conjuncts.proofs.closed.has_no_join.Goals as goal

-- a list without joins is empty
no_join : (js : List Join) → (length js == 0) ≡ is_no_join (joins_of (map join_view js))
no_join [] = refl
no_join (j ∷ js) = ne_eqb (length (j ∷ js)) 0 (λ e. absurd (omega arith))

pub returns : goal.returns
returns c = c.is_empty.ensures ∙ ap (λ (js : List Join). length js == 0) c.as_slice.ensures.value ∙ no_join c.args.joins.now.items
