use Rattle.std.proofs.Common.{rules, arith, ◌<◌, ◌≤◌, length}
use Rattle.hq_http.proofs.Waits.{reaches_none, need_fits, over_awaits, failed_awaits, enough_reaches}
use Rattle.hq_http.proofs.await_next.await_next.Goals as goal

pub reads-init : goal.reads-init
reads-init g c = record {
  reaches = reaches_none _ _;
  holds_next = search rules;
  spans = search rules;
  later = search rules;
  written = search rules;
  write_faults = search rules;
}

pub fill_to-requires : goal.fill_to-requires
fill_to-requires g c = (need_fits _ _ _ c.in-More.is c.reads.invariant.holds_next).1

pub returns-in-Over-clause-awaits : goal.returns-in-Over-clause-awaits
returns-in-Over-clause-awaits g c = over_awaits _ _ _ _ _ _ c.in-More.need _ _ c.reads.invariant.reaches c.in-Over.ensures.fills c.in-More.is c.reads.invariant.holds_next

pub returns-in-Failed-clause-awaits : goal.returns-in-Failed-clause-awaits
returns-in-Failed-clause-awaits g c = failed_awaits _ _ _ _ _ _ c.in-More.need _ _ c.reads.invariant.reaches c.in-Failed.ensures.fills c.in-More.is c.reads.invariant.holds_next

pub reads-smaller : goal.reads-smaller
reads-smaller g c =
    let fits : (length c.reads.pending < c.in-More.need) × (c.in-More.need ≤ 1064960) = need_fits _ _ _ c.in-More.is c.reads.invariant.holds_next in
    let grown : c.in-More.need ≤ length c.fill_to.new.pending = c.in-Enough.ensures.fills.holds in
    omega arith

pub reads-preserved : goal.reads-preserved
reads-preserved g c = record {
  reaches = enough_reaches _ _ _ _ _ _ c.in-More.need c.reads.invariant.reaches c.in-Enough.ensures.fills;
  holds_next = search rules;
  spans = search rules;
  later = search rules;
  written = search rules;
  write_faults = search rules;
}
