use Rattle.std.proofs.Common.{◌≡◌, map, drop}
use Rattle.hq_gql_tree.specs.Values.{argument_view}
use Rattle.hq_request_arguments.specs.Reading.{argument_named}
use Rattle.hq_request_arguments.proofs.reading.argument_named.Given as goal

-- the argument is among those that are left, if it is among them all
abbrev pub invariant-loop-argument : goal.invariant-loop-argument
invariant-loop-argument l =
    argument_named (map argument_view (drop l.argument-index l.arguments)) l.name ≡ argument_named (map argument_view l.arguments) l.name
