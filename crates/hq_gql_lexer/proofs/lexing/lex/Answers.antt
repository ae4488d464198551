use Rattle.hq_gql_lexer.proofs.LexLemmas.{given_spans}
use Rattle.hq_gql_lexer.proofs.lexing.lex.Goals as goal

pub returns-clause-spans : goal.returns-clause-spans
returns-clause-spans c = given_spans _ _ c.all_tokens.ensures
