use Rattle.std.proofs.Common.{sym}
use Rattle.std.proofs.lemmas.Str.{utf8_valid_len-IsUtf8}
use Rattle.hq_gql_lexer.proofs.byte.utf8_len.Goals as goal

pub returns-in-Ok-clause-len : goal.returns-in-Ok-clause-len
returns-in-Ok-clause-len c = sym (utf8_valid_len-IsUtf8 _ c.in-Ok.ensures.cases.1)
