use Rattle.std.proofs.Common.{◌≡◌, map, take}
use Rattle.hq_sql_constants.specs.Sifted.{slot_of}
use Rattle.hq_sql_constants.proofs.marked.slots_of.Given as goal

-- the slots of the values so far
abbrev pub invariant-loop-value : goal.invariant-loop-value
invariant-loop-value l = l.slots.items ≡ map slot_of (take l.value-index l.values)
