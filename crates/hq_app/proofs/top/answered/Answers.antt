use Rattle.std.proofs.Common.{◌≡◌, ap, Option, Some, None, Ok}
use Rattle.std.specs.Prelude.{ok_or}
use Rattle.hq_cli.specs.Asked.{command_of}
use Rattle.hq_app.proofs.top.answered.Goals as goal

-- the command that is read is the one that the words ask for
asked : {A E : Type 0} (o : Option A) (e : E) (x : A) → ok_or o e ≡ Ok x → o ≡ Some x
asked None e x h = absurd cc
asked (Some y) e x h = let same : y ≡ x = cc in ap (λ z. Some z) same

pub returns-in-Ok-clause-runs : goal.returns-in-Ok-clause-runs
returns-in-Ok-clause-runs g c = rw (asked (command_of c.args.words.now) _ _ c.in-Ok.ensures.asked) c.obey.ensures.runs

pub returns-in-Ok-clause-read : goal.returns-in-Ok-clause-read
returns-in-Ok-clause-read g c = rw (asked (command_of c.args.words.now) _ _ c.in-Ok.ensures.asked) c.obey.ensures.read

pub returns-in-Ok-clause-failed : goal.returns-in-Ok-clause-failed
returns-in-Ok-clause-failed g c = rw (asked (command_of c.args.words.now) _ _ c.in-Ok.ensures.asked) c.obey.ensures.failed
