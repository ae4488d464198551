use Rattle.std.proofs.Common.{◌∙◌, sym, ap, length}
use Rattle.hq_base.proofs.Characters.{chars_first, chars_empty}
use Rattle.hq_like.proofs.reading.split_first.Goals as goal

pub returns-in-Some : goal.returns-in-Some
returns-in-Some c =
    let is = sym c.chars-rest.ensures.rest ∙ c.in-Some.ensures.steps.0 in
    rw c.as_str.ensures (chars_first _ _ _ c.utf8.text is)

pub returns-in-None : goal.returns-in-None
returns-in-None c = chars_empty _ (ap length (sym c.chars-rest.ensures.rest) ∙ c.in-None.ensures.steps.0.0)
