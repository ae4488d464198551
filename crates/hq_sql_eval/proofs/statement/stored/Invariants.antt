use Rattle.std.proofs.Common.{◌≡◌, ℕ, ◌<◌, [], length, map, take, true}
use Rattle.std.specs.Prelude.{slice_index_or}
use Rattle.hq_sql_check.specs.Scans.{scans}
use Rattle.hq_sql_tree.specs.View.{select_view}
use Rattle.hq_sql_access.specs.Lent.{rows_lent}
use Rattle.hq_sql_eval.proofs.statement.stored.Given as goal

-- the tables so far stand there, those that the statement takes rows from with their rows
abbrev pub invariant-loop-at : goal.invariant-loop-at
invariant-loop-at g l = record {
  long : length l.world.items ≡ l.at;
  tables : map (λ s. s.table.now) l.world.items ≡ take l.at l.list;
  rows : (t : ℕ) → t < l.at → scans (select_view l.select) (g.T.Tables.tables l.tables) t ≡ true → slice_index_or (map (λ s. rows_lent s.rows) l.world.items) t [] ≡ g.T.Tables.rows l.tables t;
}
