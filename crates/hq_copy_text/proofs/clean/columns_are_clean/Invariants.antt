use Rattle.std.proofs.Common.{◌≡◌, drop}
use Rattle.std.specs.List.{list_all}
use Rattle.hq_laws_written.specs.Catalog.Written.{is_clean_column}
use Rattle.hq_copy_text.proofs.clean.columns_are_clean.Given as goal

-- those that are left are clean, if all are
abbrev pub invariant-loop-column : goal.invariant-loop-column
invariant-loop-column l =
    list_all is_clean_column (drop l.column-index l.columns) ≡ list_all is_clean_column l.columns
