use Rattle.std.proofs.Common.{◌∙◌, refl, ap, map, ℕ, get_or}
use Rattle.hq_schema.specs.Schema.{schema_view}
use Rattle.hq_gql_tree.specs.Documents.{var_def_view}
use Rattle.hq_gql_nodes.specs.Least.{earlier, least_of}
use Rattle.hq_rules_reach.specs.Uses.{numbers_view, uses_at}
use Rattle.hq_rules_reach.specs.Variables.{numbered_place, wrong_use}
use Rattle.hq_rules_reach.proofs.LeastSoFar.{least_so_far}
use Rattle.hq_rules_reach.proofs.variables_in_allowed_position.wrong_in.Goals as goal

pub loop-at-preserved : goal.loop-at-preserved
loop-at-preserved c =
    let wrong = wrong_use (schema_view c.args.schema.now) (map var_def_view c.args.vars.now) (numbered_place c.args.places.now) in
    let place = λ (j : ℕ). least_of wrong (uses_at (numbers_view c.args.all.now) j) in
    let x = get_or c.args.definitions.now c.loop-at.at-index 0 in
    least_so_far (least_of place) c.args.definitions.now c.loop-at.at-index 0 x c.loop-at.least (place x) _ _ c.loop-at.invariant c.loop-at-test.true refl refl
    (c.earlier-least.ensures ∙ ap (earlier c.loop-at.least) c.wrong_at.ensures)
