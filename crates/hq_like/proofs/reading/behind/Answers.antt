use Rattle.std.proofs.Common.{rules, ◌∙◌, sym}
use Rattle.std.specs.Str.{chars}
use Rattle.hq_like.proofs.Letters.{drop_next}
use Rattle.hq_like.proofs.reading.behind.Goals as goal

pub loop-turn-preserved : goal.loop-turn-preserved
loop-turn-preserved c =
    ((search rules), sym (drop_next c.loop-turn.turn (chars c.args.text.now) c.in-Some.field-0-0 (chars c.in-Some.later.now) (sym c.loop-turn.invariant.1 ∙ c.in-Some.ensures)))
