use Rattle.hq_gql_lexer.specs.BlockStrings.{is_blank}
use Rattle.hq_gql_lexer.proofs.LinesLemmas.{map-without_front}
use Rattle.hq_gql_lexer.proofs.lines.without_blank_front.Goals as goal

pub returns : goal.returns
returns c = map-without_front is_blank _ _ _ c.blank_front.ensures.len
