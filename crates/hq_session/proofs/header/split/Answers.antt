use Rattle.std.proofs.Common.{arith}
use Rattle.std.proofs.lemmas.Str.Pattern.{split_once_first}
use Rattle.hq_session.proofs.Tokens.{split_at_colon}
use Rattle.hq_session.proofs.header.split.Goals as goal

pub returns : goal.returns
returns c = split_at_colon c.args.text.now c.split_once.result (split_once_first 58 c.args.text.now c.split_once.result c.split_once.ensures.cases (omega arith))
