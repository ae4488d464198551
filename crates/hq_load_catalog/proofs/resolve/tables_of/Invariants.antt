use Rattle.std.proofs.Common.{◌≡◌, ◌++◌, drop}
use Rattle.hq_base.specs.Due.{mapped}
use Rattle.hq_load_catalog.specs.Each.{each, each_from}
use Rattle.hq_load_catalog.specs.Resolved.{table_of}
use Rattle.hq_load_catalog.proofs.resolve.tables_of.Given as goal

-- the tables so far, and then those of the rest
abbrev pub invariant-loop-place : goal.invariant-loop-place
invariant-loop-place l =
    each (table_of l.all) l.path l.tables ≡ mapped (λ rest. l.resolved ++ rest) (each_from (table_of l.all) l.path l.place (drop l.place l.tables))
