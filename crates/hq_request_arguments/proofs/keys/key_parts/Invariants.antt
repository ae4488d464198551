use Rattle.std.proofs.Common.{◌≡◌, ◌++◌, map, drop}
use Rattle.hq_base.specs.Due.{mapped}
use Rattle.hq_gql_tree.specs.Values.{argument_view}
use Rattle.hq_schema.specs.Schema.{arg_view}
use Rattle.hq_request_arguments.specs.Context.{context_view}
use Rattle.hq_request_arguments.specs.Keys.{part_due}
use Rattle.hq_request_arguments.specs.Reading.{each}
use Rattle.hq_request_arguments.proofs.keys.key_parts.Given as goal

-- the values so far, and then those of the rest
abbrev pub invariant-loop-column : goal.invariant-loop-column
invariant-loop-column l =
    let due = part_due (context_view l.context) (map arg_view l.args) (map argument_view l.arguments) l.t in
    each due l.columns ≡ mapped (λ rest. l.values ++ rest) (each due (drop l.column-index l.columns))
