use Rattle.std.proofs.Common.{◌≡◌, ◌≤◌, drop}
use Rattle.hq_base.specs.Uuids.{spells_from}
use Rattle.hq_base.proofs.uuid.spells.Given as goal

-- the bytes that are left go on as they are to
abbrev pub invariant-loop-c : goal.invariant-loop-c
invariant-loop-c l = record {
  rest : spells_from l.at l.since (drop l.c-index l.bytes) ≡ spells_from 0 0 l.bytes;
  few : l.since ≤ l.c-index;
}
