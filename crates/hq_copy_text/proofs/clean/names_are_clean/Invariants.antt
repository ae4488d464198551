use Rattle.std.proofs.Common.{◌≡◌, drop}
use Rattle.std.specs.List.{list_all}
use Rattle.hq_laws_written.specs.Json.ReadBack.{is_clean}
use Rattle.hq_copy_text.proofs.clean.names_are_clean.Given as goal

-- those that are left are clean, if all are
abbrev pub invariant-loop-name : goal.invariant-loop-name
invariant-loop-name l =
    list_all is_clean (drop l.name-index l.names) ≡ list_all is_clean l.names
