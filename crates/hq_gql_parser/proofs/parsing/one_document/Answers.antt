use Rattle.hq_gql_parser.proofs.DocumentLaws.{one_document}
use Rattle.hq_gql_parser.proofs.parsing.one_document.Goals as goal

pub returns : goal.returns
returns c = one_document
