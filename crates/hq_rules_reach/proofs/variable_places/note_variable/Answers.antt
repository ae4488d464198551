use Rattle.std.proofs.Common.{◌∙◌, ap, sym, ℕ, List, cond, Option, Some, None}
use Rattle.std.specs.Option.{option_or}
use Rattle.hq_gql_nodes.proofs.Lists.{option_or_none}
use Rattle.hq_rules_reach.specs.Fit.{is_number}
use Rattle.hq_rules_reach.specs.Variables.{numbered_place}
use Rattle.hq_rules_reach.proofs.variable_places.note_variable.Goals as goal

pub returns-in-Some-clause-noted : goal.returns-in-Some-clause-noted
returns-in-Some-clause-noted c = λ n.
    let name : List ℕ = c.args.var_def.now.name in
    c.note_place.ensures.noted (c.requires.below name c.in-Some.number (sym c.in-Some.ensures)) n
    ∙ ap (λ (o : Option ℕ). option_or (numbered_place c.args.places.now.items n) (cond (is_number o n) (Some c.args.at) None)) c.in-Some.ensures

pub returns-in-None-clause-noted : goal.returns-in-None-clause-noted
returns-in-None-clause-noted c = λ n.
    sym (ap (λ (o : Option ℕ). option_or (numbered_place c.args.places.now.items n) (cond (is_number o n) (Some c.args.at) None)) (sym c.in-None.ensures)
    ∙ option_or_none (numbered_place c.args.places.now.items n))
