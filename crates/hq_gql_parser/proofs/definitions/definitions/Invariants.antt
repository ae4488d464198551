use Rattle.std.proofs.Common.{map, length}
use Rattle.hq_gql_tree.specs.Documents.{definition_view}
use Rattle.hq_gql_parser.specs.declared.lookahead.Lookahead.TheVariants as ahead
use Rattle.hq_gql_parser.specs.Parsing.{some, until}
use Rattle.hq_gql_parser.specs.ParsingOperations.{definition_at}
use Rattle.hq_gql_parser.proofs.Loops.{IsParsed}
use Rattle.hq_gql_parser.proofs.definitions.definitions.Given as goal

abbrev pub invariant-loop-alloc : goal.invariant-loop-alloc
invariant-loop-alloc l = IsParsed (until ahead.End) (definition_at l.depth) (map definition_view l.found.items) l.rest (some (until ahead.End) (definition_at l.depth) l.tokens)

abbrev pub decreases-loop-alloc : goal.decreases-loop-alloc
decreases-loop-alloc l = length l.rest
