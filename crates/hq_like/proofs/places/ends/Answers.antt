use Rattle.std.proofs.Common.{◌∙◌, ◌≤◌, ◌<◌, None, Some, length, sym, arith}
use Rattle.hq_like.specs.Reading.{read}
use Rattle.hq_like.proofs.Searches.{text_short, text_end}
use Rattle.hq_like.proofs.places.ends.Goals as goal

pub returns-then-all-places : goal.returns-then-all-places
returns-then-all-places c =
    let lt : c.number-all.result < length c.args.places.now = omega arith in
    sym (text_short c.args.fold c.args.text.now c.args.places.now c.number-all.result c.number-all.ensures lt)

pub returns-in-Some : goal.returns-in-Some
returns-in-Some c =
    let le : length c.args.places.now ≤ c.number-all.result = omega arith in
    c.at_end.ensures
    ∙ sym
    (text_end c.args.fold c.args.text.now c.behind.result.now c.args.places.now c.number-all.result
    (Some (read c.args.fold c.in-Some.rest.now)) c.number-all.ensures le c.behind.ensures c.in-Some.ensures)

pub returns-in-None : goal.returns-in-None
returns-in-None c =
    let le : length c.args.places.now ≤ c.number-all.result = omega arith in
    sym (text_end c.args.fold c.args.text.now c.behind.result.now c.args.places.now c.number-all.result None c.number-all.ensures le c.behind.ensures c.in-None.ensures)
