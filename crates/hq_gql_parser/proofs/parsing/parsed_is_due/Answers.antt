use Rattle.hq_gql_parser.proofs.AnsweredLaws.{parsed_due}
use Rattle.hq_gql_parser.proofs.parsing.parsed_is_due.Goals as goal

pub returns : goal.returns
returns c = parsed_due
