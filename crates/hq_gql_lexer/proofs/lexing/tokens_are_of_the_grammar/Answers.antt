use Rattle.hq_gql_lexer.proofs.LexLemmas.{tokens_of-Lexes}
use Rattle.hq_gql_lexer.proofs.TakenLemmas.{Lexes-tokens_of}
use Rattle.hq_gql_lexer.proofs.lexing.tokens_are_of_the_grammar.Goals as goal

pub returns : goal.returns
returns c = λ text tokens. (tokens_of-Lexes text tokens, Lexes-tokens_of text tokens)
