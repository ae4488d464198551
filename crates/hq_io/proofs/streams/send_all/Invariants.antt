use Rattle.std.proofs.Common.{◌≡◌, ◌≤◌, ◌-◌, length, take}
use Rattle.std.specs.Io.KnownBytes.{Appends}
use Rattle.hq_io.proofs.streams.send_all.Given as goal

abbrev pub invariant-pieces : goal.invariant-pieces
invariant-pieces g l = record {
  within : l.sent ≤ length l.bytes;
  written : Appends (g.L.Link.written l.fn.link) (g.L.Link.written l.link) (take l.sent l.bytes);
  later : g.L.Link.write_faults l.fn.link ≤ g.L.Link.write_faults l.link;
  left : g.L.Link.left l.link ≡ g.L.Link.left l.fn.link;
  read_faults : g.L.Link.read_faults l.link ≡ g.L.Link.read_faults l.fn.link;
}

abbrev pub decreases-pieces : goal.decreases-pieces
decreases-pieces g l = length l.bytes - l.sent
