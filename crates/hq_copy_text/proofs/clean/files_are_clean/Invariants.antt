use Rattle.std.proofs.Common.{◌≡◌, drop}
use Rattle.std.specs.List.{list_all}
use Rattle.hq_copy_text.specs.Clean.{is_clean_value}
use Rattle.hq_copy_text.proofs.clean.files_are_clean.Given as goal

-- those that are left are clean, if all are
abbrev pub invariant-loop-rows : goal.invariant-loop-rows
invariant-loop-rows l =
    list_all (list_all (list_all is_clean_value)) (drop l.rows-index l.all) ≡ list_all (list_all (list_all is_clean_value)) l.all
