use Rattle.std.proofs.Common.{◌≡◌, ◌≤◌, ◌+◌, ◌-◌, take, drop}
use Rattle.hq_http.proofs.pending.slide.Given as goal

abbrev pub invariant-moved : goal.invariant-moved
invariant-moved l = record {
  within : l.start + l.i ≤ l.end;
  front : take l.i l.room ≡ take l.i (drop l.start l.fn.room);
  back : drop l.i l.room ≡ drop l.i l.fn.room;
}

abbrev pub decreases-moved : goal.decreases-moved
decreases-moved l = l.end - (l.start + l.i)
