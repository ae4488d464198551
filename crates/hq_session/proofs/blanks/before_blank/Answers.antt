use Rattle.std.proofs.lemmas.Str.Pattern.{strip_suffix_char}
use Rattle.std.proofs.Common.{arith, None}
use Rattle.hq_session.proofs.Ends.{tab_or_none_at_end}
use Rattle.hq_session.proofs.blanks.before_blank.Goals as goal

pub returns-in-None : goal.returns-in-None
returns-in-None c =
    let text = c.args.text.now in
    tab_or_none_at_end text c.strip_suffix-in-None.result (strip_suffix_char 32 text None c.in-None.ensures.cases (omega arith))
    (strip_suffix_char 9 text c.strip_suffix-in-None.result c.strip_suffix-in-None.ensures.cases (omega arith))
