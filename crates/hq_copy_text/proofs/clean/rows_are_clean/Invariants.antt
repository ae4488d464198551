use Rattle.std.proofs.Common.{◌≡◌, drop}
use Rattle.std.specs.List.{list_all}
use Rattle.hq_copy_text.specs.Clean.{is_clean_value}
use Rattle.hq_copy_text.proofs.clean.rows_are_clean.Given as goal

-- those that are left are clean, if all are
abbrev pub invariant-loop-at : goal.invariant-loop-at
invariant-loop-at l =
    list_all (list_all is_clean_value) (drop l.at l.rows) ≡ list_all (list_all is_clean_value) l.rows
