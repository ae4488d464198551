use Rattle.std.proofs.Common.{◌∙◌, sym, subst, ℕ, List, Option, map}
use Rattle.hq_gql_tree.specs.Documents.{VarDefTree, var_def_view}
use Rattle.hq_gql_nodes.specs.Names.{get_name}
use Rattle.hq_rules_reach.specs.Fit.{is_number, ArePlaces}
use Rattle.hq_rules_reach.specs.Uses.{AreNumbers}
use Rattle.hq_rules_reach.proofs.ByNumber.{are_places, none_noted}
use Rattle.hq_rules_reach.proofs.variables.places_with.Goals as goal

pub note_variables-requires-clause-numbers : goal.note_variables-requires-clause-numbers
note_variables-requires-clause-numbers c = subst (λ (k : ℕ). AreNumbers (get_name c.args.uses.now.numbers.names) k) (sym c.requires.long) c.requires.fit.numbers

pub places_among-found-requires-clause-places : goal.places_among-found-requires-clause-places
places_among-found-requires-clause-places c =
    let f = get_name c.args.uses.now.numbers.names in
    let vars = map var_def_view c.args.vars.now in
    subst (λ (ps : List (Option ℕ)). ArePlaces f ps vars) (sym c.deref.ensures.value) (are_places f c.args.uses.now.numbers.count _ vars c.requires.fit.numbers c.note_variables.ensures.noted)

pub clear_variables-requires : goal.clear_variables-requires
clear_variables-requires c =
    λ n none. c.note_variables.ensures.noted n
    ∙ none_noted (λ (v : VarDefTree). is_number (get_name c.args.uses.now.numbers.names v.name) n) 0 (map var_def_view c.args.vars.now)
    none
