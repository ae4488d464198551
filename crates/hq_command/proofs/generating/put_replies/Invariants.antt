use Rattle.std.proofs.Common.{◌≡◌, ◌+◌, ◌++◌, IfSome, map, drop}
use Rattle.hq_model.specs.Meta.{meta_view}
use Rattle.hq_command.specs.Generating.{reply_length, reply_lines}
use Rattle.hq_command.proofs.generating.put_replies.Given as goal

-- the lines so far, and those of the requests that are left, are all; the database is unchanged
abbrev pub invariant-loop-body : goal.invariant-loop-body
invariant-loop-body g l = record {
  number : l.number ≡ l.body-index;
  tables : g.D.Database.tables l.db ≡ g.D.Database.tables l.fn.db;
  database : g.D.Database.database l.db ≡ g.D.Database.database l.fn.db;
  lines : IfSome (g.D.Database.database l.fn.db) (λ d.
      l.out ++ reply_lines (reply_length l.engine.catalog.tables (meta_view l.engine.meta) l.session d) (l.number + 1) (map (λ b. b.now) (drop l.body-index l.bodies))
      ≡ l.fn.out ++ reply_lines (reply_length l.engine.catalog.tables (meta_view l.engine.meta) l.session d) 1 (map (λ b. b.now) l.bodies));
}
