use Rattle.hq_gql_lexer.specs.BlockStrings.{is_blank}
use Rattle.hq_gql_lexer.proofs.LinesLemmas.{map-without_back}
use Rattle.hq_gql_lexer.proofs.lines.without_blank_back.Goals as goal

pub returns : goal.returns
returns c = map-without_back is_blank _ _ _ c.blank_back.ensures.len
