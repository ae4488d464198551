use Rattle.std.proofs.Common.{◌∙◌, ap, bytes_eq, refl, Option, Some, None}
use Rattle.std.specs.Prelude.{option_map}
use Rattle.hq_request_coerce.specs.declared.variables.VarValue.{VarValue}
use Rattle.hq_request_coerce.specs.Variables.{VarTree, var_view}
use Rattle.hq_request_collect.proofs.Lists.{found_seen}
use Rattle.hq_request_collect.specs.Size.{less}
use Rattle.hq_request_collect.specs.ValueNodes.{put_in_nodes}
use Rattle.hq_request_collect.proofs.values.without_variable.Goals as goal

pub returns-in-Some : goal.returns-in-Some
returns-in-Some c =
    c.without_json.ensures
    ∙ ap (λ (o : Option VarTree). less (put_in_nodes (option_map (λ (v : VarTree). v.value) o)) c.args.left)
    (found_seen (λ (v : VarTree). bytes_eq v.name c.args.name.now) (λ (v : VarValue). bytes_eq v.name c.args.name.now) var_view c.args.vars.now (Some c.in-Some.var) (λ v. refl) c.in-Some.ensures)

pub returns-in-None : goal.returns-in-None
returns-in-None c =
    c.without_one.ensures
    ∙ ap (λ (o : Option VarTree). less (put_in_nodes (option_map (λ (v : VarTree). v.value) o)) c.args.left)
    (found_seen (λ (v : VarTree). bytes_eq v.name c.args.name.now) (λ (v : VarValue). bytes_eq v.name c.args.name.now) var_view c.args.vars.now None (λ v. refl) c.in-None.ensures)
