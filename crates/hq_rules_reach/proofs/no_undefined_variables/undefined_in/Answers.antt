use Rattle.std.proofs.Common.{◌∙◌, refl, sym, ap, ℕ, List, get_or, arith}
use Rattle.std.proofs.lemmas.List.{drop_all}
use Rattle.hq_gql_nodes.specs.Least.{earlier, least_of}
use Rattle.hq_gql_nodes.proofs.Lesser.{earlier_none}
use Rattle.hq_rules_reach.specs.Uses.{numbers_view, uses_at}
use Rattle.hq_rules_reach.specs.Variables.{numbered_place, undefined_use}
use Rattle.hq_rules_reach.proofs.LeastSoFar.{least_so_far}
use Rattle.hq_rules_reach.proofs.no_undefined_variables.undefined_in.Goals as goal

pub loop-at-init : goal.loop-at-init
loop-at-init c = refl

pub loop-at-preserved : goal.loop-at-preserved
loop-at-preserved c =
    let place = λ (j : ℕ). least_of (undefined_use (numbered_place c.args.places.now)) (uses_at (numbers_view c.args.all.now) j) in
    let x = get_or c.args.definitions.now c.loop-at.at-index 0 in
    least_so_far (least_of place) c.args.definitions.now c.loop-at.at-index 0 x c.loop-at.least (place x) _ _ c.loop-at.invariant c.loop-at-test.true refl refl c.undefined_at-least.ensures

pub returns : goal.returns
returns c =
    let place = λ (j : ℕ). least_of (undefined_use (numbered_place c.args.places.now)) (uses_at (numbers_view c.args.all.now) j) in
    sym (earlier_none c.loop-at.least)
    ∙ ap (λ (ds : List ℕ). earlier c.loop-at.least (least_of place ds)) (sym (drop_all c.loop-at.at-index c.args.definitions.now (omega arith)))
    ∙ c.loop-at.invariant
