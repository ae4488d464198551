use Rattle.std.proofs.Common.{◌≡◌, ◌≤◌, ◌++◌, true, IfSome, take, drop}
use Rattle.hq_base.specs.Due.{mapped}
use Rattle.hq_model.specs.Database.{is_database}
use Rattle.hq_load.specs.Loading.{rows_in, each_due}
use Rattle.hq_load.proofs.loading.load_tables.Given as goal

-- the rows so far, and those that are due for the tables that are left, are those that are due for all
abbrev pub invariant-loop-table : goal.invariant-loop-table
invariant-loop-table g l = record {
  told : IfSome (g.F.Files.folder l.fn.files) (λ folder.
      mapped (λ more. l.all ++ more) (each_due (rows_in folder l.dir) (drop l.table-index l.tables)) ≡ each_due (rows_in folder l.dir) l.tables);
  fits : is_database (take l.table-index l.tables) l.all ≡ true;
  folder : g.F.Files.folder l.files ≡ g.F.Files.folder l.fn.files;
  later : g.F.Files.faults l.fn.files ≤ g.F.Files.faults l.files;
}
