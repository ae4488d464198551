use Rattle.std.proofs.Common.{◌≡◌, ◌++◌, filter, not, drop, bytes_eq}
use Rattle.std.specs.List.{list_any}
use Rattle.hq_base.specs.Lists.{firsts}
use Rattle.hq_model.proofs.inherited.different_names.Given as goal

-- the different ones so far, and then those of the rest that are not among them
abbrev pub invariant-loop-name : goal.invariant-loop-name
invariant-loop-name l =
    l.different ++ filter (λ d. not (list_any (λ c. bytes_eq c d) l.different)) (firsts bytes_eq (drop l.name-index l.name-items)) ≡ firsts bytes_eq l.names
