use Rattle.std.proofs.Common.{◌≡◌, map, drop}
use Rattle.hq_base.specs.Json.{json_view}
use Rattle.hq_request_arguments.specs.Context.{context_view}
use Rattle.hq_request_arguments.specs.SortLists.{sorts_view, behind}
use Rattle.hq_request_arguments.specs.Sorts.{entries_due}
use Rattle.hq_request_arguments.proofs.sorts.entries.Given as goal

-- the sorts so far, and then those of the rest
abbrev pub invariant-loop-json : goal.invariant-loop-json
invariant-loop-json l =
    let c = context_view l.context in
    entries_due c l.p l.t (map json_view l.items) ≡ behind (sorts_view l.sorts) (entries_due c l.p l.t (map json_view (drop l.json-index l.items)))
