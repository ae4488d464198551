use Rattle.std.proofs.Common.{map, length}
use Rattle.hq_gql_tree.specs.Values.{argument_view}
use Rattle.hq_gql_lexer.specs.declared.token.Punct.TheVariants.{CloseParenthesis}
use Rattle.hq_gql_parser.specs.Parsing.{some, until_punct}
use Rattle.hq_gql_parser.specs.ParsingValues.{argument_at}
use Rattle.hq_gql_parser.proofs.Loops.{IsParsed}
use Rattle.hq_gql_parser.proofs.directives.some_arguments.Given as goal

abbrev pub invariant-loop-alloc : goal.invariant-loop-alloc
invariant-loop-alloc l =
    IsParsed (until_punct CloseParenthesis) (argument_at l.constant l.depth) (map argument_view l.found.items) l.rest
    (some (until_punct CloseParenthesis) (argument_at l.constant l.depth) l.tokens)

abbrev pub decreases-loop-alloc : goal.decreases-loop-alloc
decreases-loop-alloc l = length l.rest
