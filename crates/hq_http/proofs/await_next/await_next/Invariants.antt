use Rattle.std.proofs.Common.{◌≡◌, ◌≤◌, ◌-◌, length}
use Rattle.hq_http_request.specs.Holds.{Holds, window}
use Rattle.hq_http_request.specs.Reads.{IfWhole, SpansAre}
use Rattle.hq_http.specs.Waits.{Reaches}
use Rattle.hq_http.proofs.await_next.await_next.Given as goal

abbrev pub invariant-reads : goal.invariant-reads
invariant-reads g l = record {
  reaches : Reaches (g.L.Link.left l.fn.link) (g.L.Link.left l.link) l.fn.pending l.pending;
  holds_next : Holds l.pending l.arrived;
  spans : IfWhole l.arrived (λ request. SpansAre (window l.pending) l.headers request);
  later : g.L.Link.read_faults l.fn.link ≤ g.L.Link.read_faults l.link;
  written : g.L.Link.written l.link ≡ g.L.Link.written l.fn.link;
  write_faults : g.L.Link.write_faults l.link ≡ g.L.Link.write_faults l.fn.link;
}

abbrev pub decreases-reads : goal.decreases-reads
decreases-reads g l = 1064960 - length l.pending
