use Rattle.hq_gql_parser.proofs.DocumentLaws.{one_answer}
use Rattle.hq_gql_parser.proofs.parsing.one_answer.Goals as goal

pub returns : goal.returns
returns c = one_answer
