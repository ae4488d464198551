use Rattle.std.proofs.Common.{◌≡◌, map, take}
use Rattle.hq_copy_text.proofs.tables.names_of.Given as goal

-- the names so far
abbrev pub invariant-loop-column : goal.invariant-loop-column
invariant-loop-column l =
    map (λ f. f.now) l.all.items ≡ map (λ c. c.name) (take l.column-index l.columns)
