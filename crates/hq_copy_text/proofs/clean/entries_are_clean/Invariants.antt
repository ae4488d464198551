use Rattle.std.proofs.Common.{◌≡◌, drop, map}
use Rattle.std.specs.List.{list_all}
use Rattle.hq_copy_text.specs.Clean.{is_clean_entry}
use Rattle.hq_model.specs.Meta.{tracked_view}
use Rattle.hq_copy_text.proofs.clean.entries_are_clean.Given as goal

-- those that are left are clean, if all are
abbrev pub invariant-loop-entry : goal.invariant-loop-entry
invariant-loop-entry l =
    list_all is_clean_entry (map tracked_view (drop l.entry-index l.tracked)) ≡ list_all is_clean_entry (map tracked_view l.tracked)
