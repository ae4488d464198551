use Rattle.std.proofs.Common.{map, length, ◌+◌, ◌*◌}
use Rattle.hq_gql_tree.specs.Selections.{selection_view}
use Rattle.hq_gql_lexer.specs.declared.token.Punct.TheVariants.{CloseBrace}
use Rattle.hq_gql_parser.specs.Parsing.{some, until_punct}
use Rattle.hq_gql_parser.specs.ParsingSelections.{selection_at}
use Rattle.hq_gql_parser.proofs.Loops.{IsParsed}
use Rattle.hq_gql_parser.proofs.selections.+selection.Given as goal

abbrev pub decreases-set : goal.decreases-set
decreases-set l = 8 * l.depth

abbrev pub decreases-some_set : goal.decreases-some_set
decreases-some_set l = 8 * l.depth + 1

abbrev pub decreases-field : goal.decreases-field
decreases-field l = 8 * l.depth + 2

abbrev pub decreases-inline : goal.decreases-inline
decreases-inline l = 8 * l.depth + 2

abbrev pub decreases-spread_or_inline : goal.decreases-spread_or_inline
decreases-spread_or_inline l = 8 * l.depth + 3

abbrev pub decreases-selection : goal.decreases-selection
decreases-selection l = 8 * l.depth + 4

abbrev pub decreases-some_selections : goal.decreases-some_selections
decreases-some_selections l = 8 * l.depth + 5

abbrev pub decreases-opened_set : goal.decreases-opened_set
decreases-opened_set l = 8 * l.depth + 6

abbrev pub invariant-some_selections-loop-alloc : goal.invariant-some_selections-loop-alloc
invariant-some_selections-loop-alloc l =
    IsParsed (until_punct CloseBrace) (selection_at l.depth) (map selection_view l.found.items) l.rest
    (some (until_punct CloseBrace) (selection_at l.depth) l.tokens)

abbrev pub decreases-some_selections-loop-alloc : goal.decreases-some_selections-loop-alloc
decreases-some_selections-loop-alloc l = length l.rest
