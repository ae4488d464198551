use Rattle.std.proofs.Common.{◌≡◌, ◌++◌, map, drop}
use Rattle.hq_schema.specs.Sorted.{numbered}
use Rattle.hq_schema.proofs.sorted.entries.Given as goal

abbrev pub invariant-loop-at : goal.invariant-loop-at
invariant-loop-at g l =
    map (λ e. (e.name.now, e.at)) l.entries.items ++ numbered l.at (map g.T.Named.name_of (drop l.at l.items))
    ≡ numbered 0 (map g.T.Named.name_of l.items)
