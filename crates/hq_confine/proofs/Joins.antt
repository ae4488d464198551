-- One join more in scope.
use Rattle.std.proofs.Common.{◌≡◌, ◌∙◌, refl, ap, ℕ, List, [], ◌∷◌, ◌++◌, cond, true, Option}
use Rattle.hq_model.specs.Grants.{Grants}
use Rattle.hq_model.specs.Schema.{Schema}
use Rattle.hq_sql_tree.specs.Tree as tree
use Rattle.hq_sql_tree.specs.Tree.{SelectTree, JoinTrees}
use Rattle.hq_confine_rules.specs.Faults.{outputs_of, joined_shapes, select_faults, joins_faults, worse, worst}
use Rattle.hq_confine_rules.specs.Members.{is_mask_join}
use Rattle.hq_confine_rules.specs.Origins.{Origin, Shapes, outputs}
use Rattle.hq_confine_rules.specs.Uses.{Fault}
use Rattle.hq_confine_uses.specs.Views.{stacked}
use Rattle.hq_confine_uses.proofs.Stacked.{stacked_last}
use Rattle.hq_confine_uses.proofs.Worst.{worse_more}

-- a join of what comes to these outputs and this fault, beside these aliases
module _ (s : Schema) (g : Grants) (aliases after : Shapes) (outer : Shapes) (alias : List ℕ) (os : List (List ℕ × Origin)) (select : SelectTree) (rest : JoinTrees)
    (added : after ≡ aliases ++ (alias, outputs os) ∷ []) (are : os ≡ cond (is_mask_join s g (stacked aliases outer) select) [] (outputs_of s g (stacked aliases outer) select)) where
  -- what is in scope once its alias is added
  beside : stacked after outer ≡ (alias, outputs (cond (is_mask_join s g (stacked aliases outer) select) [] (outputs_of s g (stacked aliases outer) select))) ∷ stacked aliases outer
  beside =
      ap (λ (l : Shapes). stacked l outer) added ∙ stacked_last aliases outer (alias, outputs os) ∙ ap (λ (l : List (List ℕ × Origin)). (alias, outputs l) ∷ stacked aliases outer) are

  pub more_shapes : joined_shapes s g (stacked after outer) rest ≡ joined_shapes s g (stacked aliases outer) (tree.join select alias rest)
  more_shapes = ap (λ (x : Shapes). joined_shapes s g x rest) beside

  -- the fault so far, its own, and that of the joins that are left
  pub more_faults : (before now : Option Fault) (fault : Option Fault) (whole : Option Fault)
      → fault ≡ worst (cond (is_mask_join s g (stacked aliases outer) select) [] (select_faults s g (stacked aliases outer) true select)) → now ≡ worse before fault
      → worse before (worst (joins_faults s g (stacked aliases outer) (tree.join select alias rest))) ≡ whole → worse now (worst (joins_faults s g (stacked after outer) rest)) ≡ whole
  more_faults before now fault whole is grows so_far =
      let scope : Shapes = stacked aliases outer in
      let piece : List Fault = cond (is_mask_join s g scope select) [] (select_faults s g scope true select) in
      let behind : Shapes = (alias, outputs (cond (is_mask_join s g scope select) [] (outputs_of s g scope select))) ∷ scope in
      ap (λ (x : Shapes). worse now (worst (joins_faults s g x rest))) beside
      ∙ worse_more before now piece (joins_faults s g behind rest) (joins_faults s g scope (tree.join select alias rest)) whole refl (grows ∙ ap (worse before) is) so_far
