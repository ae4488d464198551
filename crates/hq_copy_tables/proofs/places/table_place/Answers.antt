use Rattle.std.proofs.Common.{Some, None, ◌∙◌, ◌==◌, sym, rules, tests}
use Rattle.std.proofs.lemmas.Iterator.{YieldsList-from_slice}
use Rattle.std.proofs.lemmas.Iterator.Search.{position_from_yields_List}
use Rattle.hq_copy_definition.specs.Sources as copy
use Rattle.hq_copy_tables.specs.Views.{source_view}
use Rattle.hq_copy_tables.specs.declared.seen.Source.{Source}
use Rattle.hq_copy_tables.proofs.Found.{found_place, no_place, place_map}
use Rattle.hq_copy_tables.proofs.places.table_place.Goals as goal

pub returns-in-Some : goal.returns-in-Some
returns-in-Some c =
    let xs = c.args.sources.now in
    let test = λ (o : Source). o.entry.now.table == c.args.t in
    let found = position_from_yields_List test _ _ (Some c.in-Some.at) c.in-Some.ensures.ran (YieldsList-from_slice xs cc) (λ x b q k. search (rules, tests)) in
    found_place test xs c.in-Some.at found ∙ sym (place_map (λ (o : copy.Source). o.entry.table == c.args.t) source_view xs)

pub returns-in-None : goal.returns-in-None
returns-in-None c =
    let xs = c.args.sources.now in
    let test = λ (o : Source). o.entry.now.table == c.args.t in
    let none = position_from_yields_List test _ _ None c.in-None.ensures.ran (YieldsList-from_slice xs cc) (λ x b q k. search (rules, tests)) in
    no_place test xs none ∙ sym (place_map (λ (o : copy.Source). o.entry.table == c.args.t) source_view xs)
