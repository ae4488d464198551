use Rattle.std.proofs.Common.{map, length}
use Rattle.hq_gql_tree.specs.Documents.{var_def_view}
use Rattle.hq_gql_lexer.specs.declared.token.Punct.TheVariants.{CloseParenthesis}
use Rattle.hq_gql_parser.specs.Parsing.{some, until_punct}
use Rattle.hq_gql_parser.specs.ParsingOperations.{variable_definition_at}
use Rattle.hq_gql_parser.proofs.Loops.{IsParsed}
use Rattle.hq_gql_parser.proofs.variables.some_variables.Given as goal

abbrev pub invariant-loop-alloc : goal.invariant-loop-alloc
invariant-loop-alloc l =
    IsParsed (until_punct CloseParenthesis) (variable_definition_at l.depth) (map var_def_view l.found.items) l.rest
    (some (until_punct CloseParenthesis) (variable_definition_at l.depth) l.tokens)

abbrev pub decreases-loop-alloc : goal.decreases-loop-alloc
decreases-loop-alloc l = length l.rest
