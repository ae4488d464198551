use Rattle.std.proofs.Common.{Some, None, ◌==◌, rules, tests}
use Rattle.std.proofs.lemmas.Iterator.{YieldsList-from_slice}
use Rattle.std.proofs.lemmas.Iterator.Search.{position_from_yields_List}
use Rattle.hq_copy_tables.proofs.Found.{found_place, no_place}
use Rattle.hq_copy_tables.proofs.places.place_in.Goals as goal

pub returns-in-Some : goal.returns-in-Some
returns-in-Some c =
    let found = position_from_yields_List (λ m. m == c.args.column) _ _ (Some c.in-Some.at) c.in-Some.ensures.ran (YieldsList-from_slice c.args.columns.now cc) (λ x b q k. search (rules, tests)) in
    found_place (λ m. m == c.args.column) c.args.columns.now c.in-Some.at found

pub returns-in-None : goal.returns-in-None
returns-in-None c =
    let none = position_from_yields_List (λ m. m == c.args.column) _ _ None c.in-None.ensures.ran (YieldsList-from_slice c.args.columns.now cc) (λ x b q k. search (rules, tests)) in
    no_place (λ m. m == c.args.column) c.args.columns.now none
