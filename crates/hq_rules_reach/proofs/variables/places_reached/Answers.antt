use Rattle.std.proofs.Common.{◌∙◌, ap, sym, map, subst, List, ℕ, [], ◌∷◌}
use Rattle.hq_schema.specs.Schema.{schema_view}
use Rattle.hq_gql_tree.specs.Documents.{var_def_view}
use Rattle.hq_gql_nodes.specs.Least.{earlier}
use Rattle.hq_gql_nodes.specs.Reach.{graph_view, reached}
use Rattle.hq_rules_reach.specs.Uses.{uses_view}
use Rattle.hq_rules_reach.proofs.SameMembers.{SameMembers}
use Rattle.hq_rules_reach.proofs.VariableLemmas.{undefined_same, unused_same, wrong_same}
use Rattle.hq_rules_reach.proofs.variables.places_reached.Goals as goal

pub returns-clause-undefined : goal.returns-clause-undefined
returns-clause-undefined c =
    let start = reached (graph_view c.args.graph.now) (c.args.at ∷ []) in
    let same : SameMembers c.deref.result.now start = subst (λ (xs : List ℕ). SameMembers xs start) (sym c.deref.ensures.value) c.in_ok-definitions.ensures in
    c.in_ok-found.ensures.undefined ∙ ap (earlier c.args.least.undefined) (undefined_same (uses_view c.args.uses.now.all.items) (map var_def_view c.args.vars.now) _ start same)

pub returns-clause-unused : goal.returns-clause-unused
returns-clause-unused c = λ h.
    let start = reached (graph_view c.args.graph.now) (c.args.at ∷ []) in
    let same : SameMembers c.deref.result.now start = subst (λ (xs : List ℕ). SameMembers xs start) (sym c.deref.ensures.value) c.in_ok-definitions.ensures in
    c.in_ok-found.ensures.unused h ∙ ap (earlier c.args.least.unused) (unused_same (uses_view c.args.uses.now.all.items) (map var_def_view c.args.vars.now) _ start same)

pub returns-clause-wrong : goal.returns-clause-wrong
returns-clause-wrong c = λ h.
    let start = reached (graph_view c.args.graph.now) (c.args.at ∷ []) in
    let same : SameMembers c.deref.result.now start = subst (λ (xs : List ℕ). SameMembers xs start) (sym c.deref.ensures.value) c.in_ok-definitions.ensures in
    c.in_ok-found.ensures.wrong h ∙ ap (earlier c.args.least.wrong) (wrong_same (schema_view c.args.schema.now) (uses_view c.args.uses.now.all.items) (map var_def_view c.args.vars.now) _ start same)
