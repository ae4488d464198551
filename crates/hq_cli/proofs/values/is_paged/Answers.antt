use Rattle.std.proofs.Common.{◌∙◌, ap, codes}
use Rattle.clap.specs.Words.{found_of}
use Rattle.clap.proofs.WalkLemmas.{first_value-rows}
use Rattle.hq_cli.specs.Asked.{says_true}
use Rattle.hq_cli.proofs.values.is_paged.Goals as goal

pub returns-in-Some : goal.returns-in-Some
returns-in-Some c = c.eq.ensures ∙ ap says_true (c.in-Some.ensures ∙ first_value-rows (found_of c.args.matches.now) (codes "paged"))

pub returns-in-None : goal.returns-in-None
returns-in-None c = ap says_true (c.in-None.ensures ∙ first_value-rows (found_of c.args.matches.now) (codes "paged"))
