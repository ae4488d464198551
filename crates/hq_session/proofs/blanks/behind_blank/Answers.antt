use Rattle.std.proofs.lemmas.Str.Pattern.{strip_prefix_char}
use Rattle.std.proofs.Common.{arith, None}
use Rattle.hq_session.proofs.Ends.{tab_or_none}
use Rattle.hq_session.proofs.blanks.behind_blank.Goals as goal

pub returns-in-None : goal.returns-in-None
returns-in-None c =
    let text = c.args.text.now in
    tab_or_none text c.strip_prefix-in-None.result (strip_prefix_char 32 text None c.in-None.ensures.cases (omega arith))
    (strip_prefix_char 9 text c.strip_prefix-in-None.result c.strip_prefix-in-None.ensures.cases (omega arith))
