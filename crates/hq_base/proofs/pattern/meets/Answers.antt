use Rattle.std.proofs.Common.{◌∙◌, sym, ap}
use Rattle.std.specs.Str.{chars}
use Rattle.hq_base.proofs.Matching.{decided, meets-front}
use Rattle.hq_base.proofs.pattern.meets.Goals as goal

pub returns-in-Misfit : goal.returns-in-Misfit
returns-in-Misfit c = ap (decided c.args.fold) c.in-Misfit.ensures ∙ sym (meets-front c.args.fold c.args.steps.now (chars c.args.text.now))

pub returns-in-Whole : goal.returns-in-Whole
returns-in-Whole c = ap (decided c.args.fold) c.in-Whole.ensures ∙ sym (meets-front c.args.fold c.args.steps.now (chars c.args.text.now))

pub returns-in-UpToAny : goal.returns-in-UpToAny
returns-in-UpToAny c = c.finds.ensures ∙ ap (decided c.args.fold) c.in-UpToAny.ensures ∙ sym (meets-front c.args.fold c.args.steps.now (chars c.args.text.now))
