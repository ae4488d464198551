use Rattle.std.proofs.Common.{◌≡◌, ◌++◌, drop}
use Rattle.hq_base.specs.Due.{mapped}
use Rattle.hq_load_catalog.specs.Each.{each, each_from}
use Rattle.hq_load_catalog.specs.Resolved.{key_column_named}
use Rattle.hq_load_catalog.proofs.resolve.key_columns_named.Given as goal

-- the columns so far, and then those of the rest
abbrev pub invariant-loop-place : goal.invariant-loop-place
invariant-loop-place l =
    each (key_column_named l.columns) l.path l.names ≡ mapped (λ rest. l.found ++ rest) (each_from (key_column_named l.columns) l.path l.place (drop l.place l.names))
