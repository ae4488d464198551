use Rattle.std.proofs.Common.{◌≡◌, [], map, take, drop}
use Rattle.hq_load_catalog.specs.Repeats.{first_repeat}
use Rattle.hq_load_catalog.proofs.repeats.repeated_column.Given as goal

-- no column so far has the name of one before it
abbrev pub invariant-loop-place : goal.invariant-loop-place
invariant-loop-place l =
    let names = map (λ c. c.name) l.columns in
    first_repeat (take l.place names) (drop l.place names) ≡ first_repeat [] names
