use Rattle.std.proofs.Common.{◌<◌, ◌∙◌, length, arith}
use Rattle.hq_like.specs.Reading.{read}
use Rattle.hq_like.proofs.Searches.{after_none}
use Rattle.hq_like.proofs.places.after.Goals as goal

pub returns-in_default : goal.returns-in_default
returns-in_default c =
    let lt : c.loop-place.place-index < length c.args.places.now = omega arith in
    c.loop-place.invariant.1 ∙ after_none c.args.places.now c.loop-place.place-index (read c.args.fold c.loop-place.rest.now) lt c.in_default.ensures
