use Rattle.std.proofs.Common.{Some, None, ◌∙◌, sym, rules, tests}
use Rattle.std.proofs.lemmas.Iterator.{YieldsList-from_slice}
use Rattle.std.proofs.lemmas.Iterator.Search.{position_from_yields_List}
use Rattle.hq_copy_definition.specs.Extras.{is_to_end}
use Rattle.hq_copy_tables.specs.Views.{extra_view, link_view}
use Rattle.hq_copy_tables.specs.declared.extras.Extra.{Extra}
use Rattle.hq_copy_tables.proofs.Found.{found_place, no_place, place_map}
use Rattle.hq_copy_tables.proofs.places.to_end_place.Goals as goal

pub returns-in-Some-clause-place : goal.returns-in-Some-clause-place
returns-in-Some-clause-place c =
    let xs = c.args.extras.now in
    let test = λ (e : Extra). is_to_end (link_view c.args.link) (extra_view e) in
    let found = position_from_yields_List test _ _ (Some c.in-Some.at) c.in-Some.ensures.ran (YieldsList-from_slice xs cc) (λ x b q k. search (rules, tests)) in
    found_place test xs c.in-Some.at found ∙ sym (place_map (is_to_end (link_view c.args.link)) extra_view xs)

pub returns-in-None-clause-place : goal.returns-in-None-clause-place
returns-in-None-clause-place c =
    let xs = c.args.extras.now in
    let test = λ (e : Extra). is_to_end (link_view c.args.link) (extra_view e) in
    let none = position_from_yields_List test _ _ None c.in-None.ensures.ran (YieldsList-from_slice xs cc) (λ x b q k. search (rules, tests)) in
    no_place test xs none ∙ sym (place_map (is_to_end (link_view c.args.link)) extra_view xs)
