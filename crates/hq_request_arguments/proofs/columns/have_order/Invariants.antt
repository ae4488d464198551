use Rattle.std.proofs.Common.{◌≡◌, drop}
use Rattle.std.specs.List.{list_all}
use Rattle.hq_request_arguments.specs.Columns.{has_order}
use Rattle.hq_request_arguments.specs.Context.{context_view}
use Rattle.hq_request_arguments.proofs.columns.have_order.Given as goal

-- all that are left pass, if all do
abbrev pub invariant-loop-column : goal.invariant-loop-column
invariant-loop-column l =
    list_all (has_order (context_view l.context) l.t) (drop l.column-index l.columns) ≡ list_all (has_order (context_view l.context) l.t) l.columns
