-- One join more in scope.
use Rattle.std.proofs.Common.{◌≡◌, ◌∙◌, refl, ap, ℕ, List, [], ◌∷◌, ◌++◌, true}
use Rattle.hq_terms.specs.declared.table.Table.{Table}
use Rattle.hq_sql_tree.specs.Tree as tree
use Rattle.hq_sql_tree.specs.Tree.{SelectTree, JoinTrees}
use Rattle.hq_sql_tree.specs.WellFormed.{Names, Aliases, select_names, joined_scope, is_typed, are_typed_joins}
use Rattle.hq_sql_check.specs.Scopes.{stacked}
use Rattle.hq_sql_check.proofs.Stacked.{stacked_last}

module _ (aliases outer : Aliases) (alias : List ℕ) (names : Names) (s : SelectTree) (rest : JoinTrees) (tables : List Table) (are : names ≡ select_names s tables (stacked aliases outer)) where
  -- what is in scope once its alias is added
  beside : stacked (aliases ++ (alias, names) ∷ []) outer ≡ (alias, select_names s tables (stacked aliases outer)) ∷ stacked aliases outer
  beside = stacked_last aliases outer (alias, names) ∙ ap (λ (ns : Names). (alias, ns) ∷ stacked aliases outer) are

  -- where it has its types, the joins behind it tell what all do
  pub joins_typed : is_typed s tables (stacked aliases outer) ≡ true
      → are_typed_joins rest tables (stacked (aliases ++ (alias, names) ∷ []) outer)
      ≡ are_typed_joins (tree.join s alias rest) tables (stacked aliases outer)
  joins_typed typed = ap (are_typed_joins rest tables) beside ∙ rw typed refl

  pub joins_scope : joined_scope rest tables (stacked (aliases ++ (alias, names) ∷ []) outer) ≡ joined_scope (tree.join s alias rest) tables (stacked aliases outer)
  joins_scope = ap (joined_scope rest tables) beside
