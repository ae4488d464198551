use Rattle.std.proofs.Common.{◌∙◌, refl, ap, List, map}
use Rattle.hq_schema.specs.Schema.{schema_view}
use Rattle.hq_gql_tree.specs.Documents.{var_def_view}
use Rattle.hq_gql_nodes.specs.Least.{earlier, least_of}
use Rattle.hq_rules_reach.specs.Uses.{number_view}
use Rattle.hq_rules_reach.specs.Variables.{numbered_place, wrong_use}
use Rattle.hq_rules_reach.specs.declared.uses.Use.{Use}
use Rattle.hq_rules_reach.proofs.LeastSoFar.{least_so_far}
use Rattle.hq_rules_reach.proofs.variables_in_allowed_position.least_wrong.Goals as goal

pub loop-found-preserved : goal.loop-found-preserved
loop-found-preserved c =
    let place = wrong_use (schema_view c.args.schema.now) (map var_def_view c.args.vars.now) (numbered_place c.args.places.now) in
    let x = c.found-item.result in
    least_so_far (λ (us : List Use). least_of place (map number_view us)) c.args.uses.now c.loop-found.found-index x x c.loop-found.least
    (place (number_view x)) _ _ c.loop-found.invariant c.loop-found-test.true c.found-item.is refl
    (c.earlier-least.ensures ∙ ap (earlier c.loop-found.least) c.wrong_use.ensures)
