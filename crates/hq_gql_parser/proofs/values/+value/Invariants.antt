use Rattle.std.proofs.Common.{map, ◌+◌, ◌*◌, length}
use Rattle.hq_gql_tree.specs.Values.{placed_view, argument_view}
use Rattle.hq_gql_lexer.specs.declared.token.Punct.TheVariants.{CloseBracket, CloseBrace}
use Rattle.hq_gql_parser.specs.Parsing.{all, until_punct}
use Rattle.hq_gql_parser.specs.ParsingValues.{value_at, argument_at}
use Rattle.hq_gql_parser.proofs.Loops.{IsParsed}
use Rattle.hq_gql_parser.proofs.values.+value.Given as goal

abbrev pub decreases-list : goal.decreases-list
decreases-list l = 5 * l.depth

abbrev pub decreases-object : goal.decreases-object
decreases-object l = 5 * l.depth

abbrev pub decreases-value : goal.decreases-value
decreases-value l = 5 * l.depth + 1

abbrev pub decreases-argument : goal.decreases-argument
decreases-argument l = 5 * l.depth + 2

abbrev pub decreases-elements : goal.decreases-elements
decreases-elements l = 5 * l.depth + 3

abbrev pub decreases-members : goal.decreases-members
decreases-members l = 5 * l.depth + 3

abbrev pub decreases-opened_list : goal.decreases-opened_list
decreases-opened_list l = 5 * l.depth + 4

abbrev pub decreases-opened_object : goal.decreases-opened_object
decreases-opened_object l = 5 * l.depth + 4

abbrev pub invariant-elements-loop-alloc : goal.invariant-elements-loop-alloc
invariant-elements-loop-alloc l =
    IsParsed (until_punct CloseBracket) (value_at l.constant l.depth) (map placed_view l.found.items) l.rest (all (until_punct CloseBracket) (value_at l.constant l.depth) l.tokens)

abbrev pub decreases-elements-loop-alloc : goal.decreases-elements-loop-alloc
decreases-elements-loop-alloc l = length l.rest

abbrev pub invariant-members-loop-alloc : goal.invariant-members-loop-alloc
invariant-members-loop-alloc l =
    IsParsed (until_punct CloseBrace) (argument_at l.constant l.depth) (map argument_view l.found.items) l.rest (all (until_punct CloseBrace) (argument_at l.constant l.depth) l.tokens)

abbrev pub decreases-members-loop-alloc : goal.decreases-members-loop-alloc
decreases-members-loop-alloc l = length l.rest
