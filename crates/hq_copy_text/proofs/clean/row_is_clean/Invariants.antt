use Rattle.std.proofs.Common.{◌≡◌, drop}
use Rattle.std.specs.List.{list_all}
use Rattle.hq_copy_text.specs.Clean.{is_clean_value}
use Rattle.hq_copy_text.proofs.clean.row_is_clean.Given as goal

-- those that are left are clean, if all are
abbrev pub invariant-loop-value : goal.invariant-loop-value
invariant-loop-value l =
    list_all is_clean_value (drop l.value-index l.row) ≡ list_all is_clean_value l.row
