use Rattle.std.proofs.Common.{◌≡◌, map, drop}
use Rattle.hq_schema.specs.Schema.{arg_view}
use Rattle.hq_gql_tree.specs.Values.{argument_view}
use Rattle.hq_rules_fields.specs.NodeRules.{lacks_any}
use Rattle.hq_rules_fields.proofs.required.lacks_any.Given as goal

-- none so far is lacking
abbrev pub invariant-loop-arg : goal.invariant-loop-arg
invariant-loop-arg l = lacks_any (map argument_view l.given) (map arg_view (drop l.arg-index l.args)) ≡ lacks_any (map argument_view l.given) (map arg_view l.args)
