use Rattle.std.proofs.Common.{length, ◌-◌}
use Rattle.hq_gql_lexer.specs.Lexemes.{tokens_at}
use Rattle.hq_gql_lexer.proofs.StepsLemmas.{IsMade}
use Rattle.hq_gql_lexer.proofs.lexing.all_tokens.Given as goal

abbrev pub invariant-loop-at : goal.invariant-loop-at
invariant-loop-at l = IsMade tokens_at 0 l.at l.text l.tokens

abbrev pub decreases-loop-at : goal.decreases-loop-at
decreases-loop-at l = length l.text - l.at
