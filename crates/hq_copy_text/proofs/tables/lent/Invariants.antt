use Rattle.std.proofs.Common.{◌≡◌, map, take}
use Rattle.hq_copy_text.proofs.tables.lent.Given as goal

-- the fields so far
abbrev pub invariant-loop-field : goal.invariant-loop-field
invariant-loop-field l =
    map (λ f. f.now) l.all.items ≡ take l.field-index l.fields
