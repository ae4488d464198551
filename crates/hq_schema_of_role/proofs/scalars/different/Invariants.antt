use Rattle.std.proofs.Common.{◌≡◌, ◌++◌, filter, not, drop, bytes_eq}
use Rattle.std.specs.List.{list_any}
use Rattle.hq_base.specs.Lists.{firsts}
use Rattle.hq_schema_of_role.proofs.scalars.different.Given as goal

-- the different ones so far, and then those of the rest that are not among them
abbrev pub invariant-loop-name : goal.invariant-loop-name
invariant-loop-name l =
    firsts bytes_eq l.names ≡ l.different.items ++ filter (λ d. not (list_any (λ c. bytes_eq c d) l.different.items)) (firsts bytes_eq (drop l.name-index l.names))
