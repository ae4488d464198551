use Rattle.std.proofs.Common.{◌≡◌, ◌++◌, drop}
use Rattle.hq_base.specs.Due.{mapped}
use Rattle.hq_load_catalog.specs.Each.{each, each_from}
use Rattle.hq_load_catalog.specs.Resolved.{column_named}
use Rattle.hq_load_catalog.proofs.resolve.columns_named.Given as goal

-- the columns so far, and then those of the rest
abbrev pub invariant-loop-place : goal.invariant-loop-place
invariant-loop-place l =
    each (column_named l.columns) l.path l.names ≡ mapped (λ rest. l.found ++ rest) (each_from (column_named l.columns) l.path l.place (drop l.place l.names))
