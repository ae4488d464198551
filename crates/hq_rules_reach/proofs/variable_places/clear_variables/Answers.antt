use Rattle.std.proofs.Common.{◌≡◌, ◌∙◌, ap, sym, refl, ℕ, Option, None, List, ◌∷◌, ◌+◌, map, drop, cond, Bool, true, false, ◌||◌, arith}
use Rattle.std.specs.List.{list_any}
use Rattle.std.proofs.lemmas.List.{drop_more, drop_all}
use Rattle.hq_gql_tree.specs.declared.document.VarDef.{VarDef}
use Rattle.hq_gql_tree.specs.Documents.{VarDefTree, var_def_view}
use Rattle.hq_gql_nodes.specs.Names.{get_name}
use Rattle.hq_rules_reach.specs.Fit.{is_number}
use Rattle.hq_rules_reach.specs.Variables.{numbered_place}
use Rattle.hq_rules_reach.proofs.variable_places.clear_variables.Goals as goal

pub loop-var_def-init : goal.loop-var_def-init
loop-var_def-init c = record { as_long = refl; left = λ n h. c.requires n h }

-- a place is cleared, or was none
cleared : (b rest : Bool) (old new : Option ℕ) → new ≡ cond b None old → rest ≡ false → ((b || rest) ≡ false → old ≡ None) → new ≡ None
cleared true rest old new e none h = e
cleared false rest old new e none h = e ∙ h none

pub loop-var_def-preserved : goal.loop-var_def-preserved
loop-var_def-preserved c =
    let f = get_name c.args.numbers.now in
    let vs = c.args.vars.now in
    let i = c.loop-var_def.var_def-index in
    let x = c.var_def-item.result in
    record {
      as_long = c.clear_variable.ensures.length ∙ c.loop-var_def.invariant.as_long;
      left = λ n none.
          cleared (is_number (f x.name) n) (list_any (λ (v : VarDefTree). is_number (f v.name) n) (map var_def_view (drop (i + 1) vs)))
          (numbered_place c.loop-var_def.places.items n) _ (c.clear_variable.ensures.cleared n) none
          (λ h. c.loop-var_def.invariant.left n
          (ap (λ (ds : List VarDef). list_any (λ (v : VarDefTree). is_number (f v.name) n) (map var_def_view ds))
          (drop_more vs i x c.loop-var_def-test.true ∙ ap (λ (y : VarDef). y ∷ drop (i + 1) vs) (sym c.var_def-item.is)) ∙ h));
    }

pub returns-clause-clear : goal.returns-clause-clear
returns-clause-clear c = λ n.
    c.loop-var_def.invariant.left n
    (ap (λ (ds : List VarDef). list_any (λ (v : VarDefTree). is_number (get_name c.args.numbers.now v.name) n) (map var_def_view ds))
    (drop_all c.loop-var_def.var_def-index c.args.vars.now (omega arith)))
