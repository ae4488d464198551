use Rattle.std.proofs.Common.{◌≡◌, ◌∙◌, ap, refl, ℕ, List, Option, Some, None}
use Rattle.hq_schema.specs.Schema.{schema_view}
use Rattle.hq_gql_tree.specs.Documents.{VarDefTree}
use Rattle.hq_gql_tree.specs.View.{document_view}
use Rattle.hq_gql_nodes.specs.Reach.{graph_view}
use Rattle.hq_rules_reach.specs.Spreads.{least_at}
use Rattle.hq_rules_reach.specs.Variables.{in_operation, use_fault}
use Rattle.hq_rules_reach.proofs.VariableLemmas.{undefined_summed, unused_summed, wrong_summed}
use Rattle.hq_rules_reach.proofs.variables.variable_use_fault.Goals as goal

-- the later rules matter where no use is undefined
same_fault : (u v n m w x : Option ℕ) → u ≡ v → (u ≡ None → n ≡ m) → (u ≡ None → w ≡ x) → use_fault u n w ≡ use_fault v m x
same_fault None v n m w x e f g = ap (λ (o : Option ℕ). use_fault None o w) (f refl) ∙ ap (λ (o : Option ℕ). use_fault None m o) (g refl) ∙ ap (λ (o : Option ℕ). use_fault o m x) e
same_fault (Some u) v n m w x e f g = ap (λ (o : Option ℕ). use_fault o m x) e

pub returns : goal.returns
returns c =
    let g = graph_view c.args.graph.now in
    let d = document_view c.args.document.now in
    let places = c.in_ok-places.ensures in
    let in_all = λ (f : List VarDefTree → List ℕ → Option ℕ). least_at (in_operation f g) d in
    c.fault_of.ensures
    ∙ same_fault _ _ _ _ _ _
    (places.undefined ∙ ap in_all (undefined_summed _ _ c.in_ok-uses.ensures.summaries))
    (λ h. places.unused h ∙ ap in_all (unused_summed _ _ c.in_ok-uses.ensures.summaries))
    (λ h. places.wrong h ∙ ap in_all (wrong_summed (schema_view c.args.schema.now) _ _ c.in_ok-uses.ensures.summaries))
