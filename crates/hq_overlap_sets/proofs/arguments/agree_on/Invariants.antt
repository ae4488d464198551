use Rattle.std.proofs.Common.{◌≡◌, map, drop}
use Rattle.hq_gql_tree.specs.Values.{argument_view}
use Rattle.hq_overlap_sets.specs.Literals.{agree_on, given_in}
use Rattle.hq_overlap_sets.proofs.arguments.agree_on.Given as goal

-- what is left decides
abbrev pub invariant-loop-argument : goal.invariant-loop-argument
invariant-loop-argument l =
    agree_on (given_in l.left) (given_in l.right) (map argument_view (drop l.argument-index l.names))
    ≡ agree_on (given_in l.left) (given_in l.right) (map argument_view l.names)
