use Rattle.std.proofs.Common.{map, length}
use Rattle.hq_gql_tree.specs.Values.{directive_view}
use Rattle.hq_gql_lexer.specs.declared.token.Punct.TheVariants.{At}
use Rattle.hq_gql_parser.specs.declared.lookahead.Lookahead.TheVariants as ahead
use Rattle.hq_gql_parser.specs.Lookahead.{is_at}
use Rattle.hq_gql_parser.specs.ParsingValues.{directive_at}
use Rattle.hq_gql_parser.specs.Parsing.{all}
use Rattle.hq_gql_parser.proofs.Loops.{IsParsed}
use Rattle.hq_gql_parser.proofs.directives.directives.Given as goal

abbrev pub invariant-loop-alloc : goal.invariant-loop-alloc
invariant-loop-alloc l =
    IsParsed (is_at (ahead.Punct At)) (directive_at l.constant l.depth) (map directive_view l.found.items) l.rest
    (all (is_at (ahead.Punct At)) (directive_at l.constant l.depth) l.tokens)

abbrev pub decreases-loop-alloc : goal.decreases-loop-alloc
decreases-loop-alloc l = length l.rest
