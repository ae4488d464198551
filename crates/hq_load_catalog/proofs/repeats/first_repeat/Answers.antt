use Rattle.std.proofs.Common.{◌∙◌, sym}
use Rattle.hq_load_catalog.proofs.RepeatLemmas.{first_repeat-found, first_repeat-more}
use Rattle.hq_load_catalog.proofs.repeats.first_repeat.Goals as goal

pub returns-then-is_among : goal.returns-then-is_among
returns-then-is_among c =
    sym (first_repeat-found c.args.names.now c.loop-place.place c.index-names-place.result c.loop-place-test.true c.index-names-place.is (sym c.is_among.ensures ∙ c.if-is_among.true))
    ∙ c.loop-place.invariant

pub loop-place-preserved : goal.loop-place-preserved
loop-place-preserved c =
    sym (first_repeat-more c.args.names.now c.loop-place.place c.index-names-place.result c.loop-place-test.true c.index-names-place.is (sym c.is_among.ensures ∙ c.if-is_among.false))
    ∙ c.loop-place.invariant
