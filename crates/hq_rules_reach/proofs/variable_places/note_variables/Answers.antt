use Rattle.std.proofs.Common.{◌∙◌, ap, sym, refl, subst, ℕ, Some, None, map, cond, arith}
use Rattle.std.specs.Option.{option_or}
use Rattle.std.specs.List.{position_from}
use Rattle.std.proofs.lemmas.List.{take_all}
use Rattle.hq_gql_tree.specs.Documents.{VarDefTree, var_def_view}
use Rattle.hq_gql_nodes.specs.Names.{get_name}
use Rattle.hq_gql_nodes.proofs.Lists.{position_more}
use Rattle.hq_rules_reach.specs.Fit.{is_number}
use Rattle.hq_rules_reach.specs.Uses.{AreNumbers}
use Rattle.hq_rules_reach.proofs.variable_places.note_variables.Goals as goal

pub loop-at-init : goal.loop-at-init
loop-at-init c = record { as_long = refl; noted = λ n. c.requires.clear n }

pub note_variable-requires : goal.note_variable-requires
note_variable-requires c = subst (λ (k : ℕ). AreNumbers (get_name c.args.numbers.now) k) (sym c.loop-at.invariant.as_long) c.requires.numbers

pub loop-at-preserved : goal.loop-at-preserved
loop-at-preserved c =
    let x = c.index-vars-at.result in
    record {
      as_long = c.note_variable.ensures.length ∙ c.loop-at.invariant.as_long;
      noted = λ n.
          c.note_variable.ensures.noted n
          ∙ ap (λ o. option_or o (cond (is_number (get_name c.args.numbers.now x.name) n) (Some c.loop-at.at) None)) (c.loop-at.invariant.noted n)
          ∙ sym (position_more (λ (v : VarDefTree). is_number (get_name c.args.numbers.now v.name) n) var_def_view c.args.vars.now c.loop-at.at x (omega arith) c.index-vars-at.is);
    }

pub returns-clause-noted : goal.returns-clause-noted
returns-clause-noted c = λ n.
    c.loop-at.invariant.noted n
    ∙ ap (λ vs. position_from (λ v. is_number (get_name c.args.numbers.now v.name) n) 0 (map var_def_view vs)) (take_all c.loop-at.at c.args.vars.now (omega arith))
