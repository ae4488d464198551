use Rattle.std.proofs.Common.{◌≡◌, ◌≤◌, ◌<◌, ℕ, true}
use Rattle.hq_copy_filter.proofs.loaded.pin_all.Given as goal

-- the tables so far are pinned
abbrev pub invariant-loop-at : goal.invariant-loop-at
invariant-loop-at g l = record {
  pinned : (t : ℕ) → t < l.at → g.T.Tables.is_pinned l.tables t ≡ true;
  tables : g.T.Tables.tables l.tables ≡ g.T.Tables.tables l.fn.tables;
  database : g.T.Tables.database l.tables ≡ g.T.Tables.database l.fn.tables;
  later : g.T.Tables.faults l.fn.tables ≤ g.T.Tables.faults l.tables;
}
