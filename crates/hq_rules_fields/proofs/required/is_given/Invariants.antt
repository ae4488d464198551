use Rattle.std.proofs.Common.{◌≡◌, map, drop}
use Rattle.hq_gql_tree.specs.Values.{argument_view}
use Rattle.hq_rules_fields.specs.NodeRules.{is_given}
use Rattle.hq_rules_fields.proofs.required.is_given.Given as goal

-- what is left decides
abbrev pub invariant-loop-argument : goal.invariant-loop-argument
invariant-loop-argument l = is_given (map argument_view (drop l.argument-index l.given)) l.name ≡ is_given (map argument_view l.given) l.name
