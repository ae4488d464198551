use Rattle.std.proofs.Common.{◌∙◌, ap, List, map, Vec, Global}
use Rattle.hq_schema.specs.Schema.{schema_view}
use Rattle.hq_gql_tree.specs.Documents.{var_def_view}
use Rattle.hq_gql_nodes.specs.Least.{earlier, least_of}
use Rattle.hq_gql_nodes.specs.Names.{get_name}
use Rattle.hq_rules_reach.specs.declared.uses.Use.{Use}
use Rattle.hq_rules_reach.specs.Uses.{numbers_view, uses_at}
use Rattle.hq_rules_reach.specs.Variables.{numbered_place, undefined_use, wrong_use}
use Rattle.hq_rules_reach.proofs.ByNumber.{undefined_numbered, wrong_numbered}
use Rattle.hq_rules_reach.proofs.variables.places_among.Goals as goal

pub returns-then-is_some-clause-undefined : goal.returns-then-is_some-clause-undefined
returns-then-is_some-clause-undefined c =
    let places = c.args.places.now in
    let vars = map var_def_view c.args.vars.now in
    let definitions = c.args.definitions.now in
    c.undefined_in-undefined.ensures
    ∙ ap
    (λ (us : List (Vec Use Global)). earlier c.args.least.undefined
    (least_of (λ j. least_of (undefined_use (numbered_place places)) (uses_at (numbers_view us) j)) definitions))
    c.deref.ensures.value
    ∙ ap (earlier c.args.least.undefined) (undefined_numbered (get_name c.args.uses.now.numbers.names) c.args.uses.now.all.items vars places definitions c.requires.fit.numbered c.requires.places)

pub returns-clause-undefined : goal.returns-clause-undefined
returns-clause-undefined c =
    let places = c.args.places.now in
    let vars = map var_def_view c.args.vars.now in
    let definitions = c.args.definitions.now in
    c.undefined_in-undefined.ensures
    ∙ ap
    (λ (us : List (Vec Use Global)). earlier c.args.least.undefined
    (least_of (λ j. least_of (undefined_use (numbered_place places)) (uses_at (numbers_view us) j)) definitions))
    c.deref.ensures.value
    ∙ ap (earlier c.args.least.undefined) (undefined_numbered (get_name c.args.uses.now.numbers.names) c.args.uses.now.all.items vars places definitions c.requires.fit.numbered c.requires.places)

pub returns-clause-unused : goal.returns-clause-unused
returns-clause-unused c = λ _. c.earlier.ensures ∙ ap (earlier c.args.least.unused) c.in_ok-unused.ensures

pub returns-clause-wrong : goal.returns-clause-wrong
returns-clause-wrong c = λ _.
    let s = schema_view c.args.schema.now in
    let places = c.args.places.now in
    let vars = map var_def_view c.args.vars.now in
    let definitions = c.args.definitions.now in
    c.earlier-2.ensures
    ∙ ap (earlier c.args.least.wrong)
    (c.wrong_in.ensures
    ∙ ap (λ (us : List (Vec Use Global)). least_of (λ j. least_of (wrong_use s vars (numbered_place places)) (uses_at (numbers_view us) j)) definitions) c.deref-2.ensures.value
    ∙ wrong_numbered s (get_name c.args.uses.now.numbers.names) c.args.uses.now.all.items vars places definitions c.requires.fit.numbered c.requires.places)
