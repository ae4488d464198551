use Rattle.std.proofs.Common.{◌≡◌, ◌≤◌, ◌<◌, ℕ, true, false}
use Rattle.std.specs.Prelude.{slice_index_or}
use Rattle.hq_sql_database.proofs.pinning.pin_tables.Given as goal

-- the tables so far that the statement takes rows from are pinned
abbrev pub invariant-loop-at : goal.invariant-loop-at
invariant-loop-at g l = record {
  pinned : (t : ℕ) → t < l.at → slice_index_or l.is_scanned-items t false ≡ true → g.T.Tables.is_pinned l.tables t ≡ true;
  tables : g.T.Tables.tables l.tables ≡ g.T.Tables.tables l.fn.tables;
  database : g.T.Tables.database l.tables ≡ g.T.Tables.database l.fn.tables;
  later : g.T.Tables.faults l.fn.tables ≤ g.T.Tables.faults l.tables;
}
