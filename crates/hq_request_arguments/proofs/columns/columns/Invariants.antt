use Rattle.std.proofs.Common.{◌≡◌, ◌++◌, map, drop}
use Rattle.hq_base.specs.Due.{mapped}
use Rattle.hq_base.specs.Json.{json_view}
use Rattle.hq_request_arguments.specs.Columns.{column_due}
use Rattle.hq_request_arguments.specs.Context.{context_view}
use Rattle.hq_request_arguments.specs.Reading.{each}
use Rattle.hq_request_arguments.proofs.columns.columns.Given as goal

-- the columns so far, and then those of the rest
abbrev pub invariant-loop-json : goal.invariant-loop-json
invariant-loop-json l =
    each (column_due (context_view l.context) l.p) (map json_view l.items)
    ≡ mapped (λ rest. l.columns ++ rest) (each (column_due (context_view l.context) l.p) (map json_view (drop l.json-index l.items)))
