use Rattle.std.proofs.Common.{◌≡◌, ◌≤◌, ◌-◌, length}
use Rattle.hq_http.specs.Waits.{Reaches}
use Rattle.hq_http.proofs.await_next.fill_to.Given as goal

abbrev pub invariant-pieces : goal.invariant-pieces
invariant-pieces g l = record {
  reaches : Reaches (g.L.Link.left l.fn.link) (g.L.Link.left l.link) l.fn.pending l.pending;
  later : g.L.Link.read_faults l.fn.link ≤ g.L.Link.read_faults l.link;
  written : g.L.Link.written l.link ≡ g.L.Link.written l.fn.link;
  write_faults : g.L.Link.write_faults l.link ≡ g.L.Link.write_faults l.fn.link;
}

abbrev pub decreases-pieces : goal.decreases-pieces
decreases-pieces g l = l.need - length l.pending
