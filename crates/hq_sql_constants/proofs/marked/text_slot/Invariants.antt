use Rattle.std.proofs.Common.{◌≡◌, ◌<◌, drop}
use Rattle.hq_sql_constants.specs.Sifted.{text_slot}
use Rattle.hq_sql_constants.proofs.marked.text_slot.Given as goal

-- what is left goes on from the slot so far
abbrev pub invariant-loop-byte : goal.invariant-loop-byte
invariant-loop-byte l = record {
  goes : text_slot l.slot (drop l.byte-index l.bytes) ≡ text_slot 0 l.bytes;
  small : l.slot < 65536;
}
