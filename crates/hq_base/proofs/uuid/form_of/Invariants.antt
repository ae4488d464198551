use Rattle.std.proofs.Common.{◌≡◌, ◌++◌, true, drop, length}
use Rattle.std.specs.List.{list_all}
use Rattle.hq_base.specs.Uuids.{form_from, is_digit_or_hyphen}
use Rattle.hq_base.proofs.uuid.form_of.Given as goal

-- the form so far, and that of the digits that are left
abbrev pub invariant-loop-c : goal.invariant-loop-c
invariant-loop-c l = record {
  form : l.form ++ form_from (length l.form) (drop l.c-index l.bytes) ≡ form_from 0 l.bytes;
  bytes : list_all is_digit_or_hyphen (drop l.c-index l.bytes) ≡ true;
}
