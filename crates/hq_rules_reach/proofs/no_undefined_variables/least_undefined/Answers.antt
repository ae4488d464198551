use Rattle.std.proofs.Common.{◌∙◌, refl, sym, ap, List, map, drop, arith}
use Rattle.std.specs.Prelude.{is_none}
use Rattle.std.proofs.lemmas.List.{drop_all}
use Rattle.hq_gql_nodes.specs.Least.{earlier, least_of}
use Rattle.hq_gql_nodes.proofs.Lesser.{earlier_none}
use Rattle.hq_rules_reach.specs.Uses.{number_view}
use Rattle.hq_rules_reach.specs.Variables.{numbered_place, undefined_use}
use Rattle.hq_rules_reach.specs.declared.uses.Use.{Use}
use Rattle.hq_rules_reach.proofs.LeastSoFar.{least_so_far}
use Rattle.hq_rules_reach.proofs.Summing.{ascends_from, nothing_before}
use Rattle.hq_rules_reach.proofs.no_undefined_variables.least_undefined.Goals as goal

pub loop-found-init : goal.loop-found-init
loop-found-init c = refl

pub loop-found-preserved : goal.loop-found-preserved
loop-found-preserved c =
    let place = undefined_use (numbered_place c.args.places.now) in
    let x = c.found-item.result in
    least_so_far (λ (us : List Use). least_of place (map number_view us)) c.args.uses.now c.loop-found.found-index x x c.loop-found.least
    (place (number_view x)) _ _ c.loop-found.invariant c.loop-found-test.true c.found-item.is refl
    (c.earlier-least.ensures ∙ ap (earlier c.loop-found.least) c.undefined_use.ensures)

-- what is left is behind the least so far
pub returns-then-is_behind : goal.returns-then-is_behind
returns-then-is_behind c =
    let x = c.found-item.result in
    sym (nothing_before (λ u. is_none (numbered_place c.args.places.now u.name)) c.loop-found.least x.at (drop c.loop-found.found-index c.args.uses.now)
    (c.is_behind.ensures c.if-is_behind.true)
    (ascends_from 0 c.args.uses.now c.loop-found.found-index x c.loop-found-test.true c.found-item.is (c.requires c.if-ascending.true)))
    ∙ c.loop-found.invariant

pub returns : goal.returns
returns c =
    let place = undefined_use (numbered_place c.args.places.now) in
    sym (earlier_none c.loop-found.least)
    ∙ ap (λ (us : List Use). earlier c.loop-found.least (least_of place (map number_view us))) (sym (drop_all c.loop-found.found-index c.args.uses.now (omega arith)))
    ∙ c.loop-found.invariant
