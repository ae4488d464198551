use Rattle.std.proofs.Common.{◌≡◌, ◌++◌, map, drop}
use Rattle.hq_base.specs.Due.{mapped}
use Rattle.hq_base.specs.Json.{member_view}
use Rattle.hq_model.specs.Bexp.{bexp_view}
use Rattle.hq_request_arguments.specs.Comparisons.{named_due}
use Rattle.hq_request_arguments.specs.Context.{context_view}
use Rattle.hq_request_arguments.specs.Reading.{each}
use Rattle.hq_request_arguments.proofs.comparisons.conditions.Given as goal

-- the conditions so far, and then those of the rest
abbrev pub invariant-loop-member : goal.invariant-loop-member
invariant-loop-member l =
    each (named_due (context_view l.context) l.p l.col l.ty) (map member_view l.members)
    ≡ mapped (λ rest. map bexp_view l.conditions.items ++ rest) (each (named_due (context_view l.context) l.p l.col l.ty) (map member_view (drop l.member-index l.members)))
