use Rattle.std.proofs.Common.{◌≡◌, ◌++◌, map, drop}
use Rattle.hq_base.specs.Due.{mapped}
use Rattle.hq_base.specs.Json.{member_view}
use Rattle.hq_model.specs.Bexp.{bexp_view}
use Rattle.hq_model.specs.Schema.{table, column}
use Rattle.hq_model.specs.Described.{scope_schema}
use Rattle.hq_load_filter.specs.Condition.{written_on}
use Rattle.hq_load_filter.specs.Each.{each_member}
use Rattle.hq_load_filter.proofs.condition.conditions.Given as goal

-- the conditions so far, and then those of the rest
abbrev pub invariant-loop-member : goal.invariant-loop-member
invariant-loop-member l =
    let s = scope_schema l.scope in
    let written = written_on (table s l.t) l.col (column s l.t l.col).ty in
    each_member written l.path (map member_view l.members)
    ≡ mapped (λ rest. map bexp_view l.conditions.items ++ rest) (each_member written l.path (map member_view (drop l.member-index l.members)))
