use Rattle.std.proofs.Common.{◌≡◌, drop}
use Rattle.hq_laws_written.specs.Catalog.Written.{has_clean_names}
use Rattle.hq_copy_text.proofs.clean.tables_are_clean.Given as goal

-- those that are left are clean, if all are
abbrev pub invariant-loop-table : goal.invariant-loop-table
invariant-loop-table l =
    has_clean_names (drop l.table-index l.tables) ≡ has_clean_names l.tables
