use Rattle.std.proofs.Common.{◌≡◌, ℕ, List, map, drop}
use Rattle.std.specs.Option.{option_or}
use Rattle.hq_gql_tree.specs.Values.{argument_view}
use Rattle.hq_overlap_sets.specs.Literals.{arguments_of, given_in}
use Rattle.hq_overlap_sets.proofs.arguments.values_of.Given as goal

-- what is noted, and else what is left, has each name
abbrev pub invariant-loop-argument : goal.invariant-loop-argument
invariant-loop-argument l =
    (q : List ℕ)
    → option_or (given_in l.values q) (arguments_of (map argument_view (drop l.argument-index l.args)) q) ≡ arguments_of (map argument_view l.args) q
