use denote.Shadow.{shadow}
use denote.Text.{Utf8}
use Rattle.std.proofs.Common.{◌≡◌, length, reverse, false}
use Rattle.hq_base.specs.Text.{has_zero}
use Rattle.hq_session.specs.Fields.{behind_blanks}
use Rattle.hq_session.proofs.blanks.without_back.Given as goal

-- what is left has the same before its blanks
abbrev pub invariant-loop-next : goal.invariant-loop-next
invariant-loop-next l = record {
  same : behind_blanks (reverse l.rest) ≡ behind_blanks (reverse l.text);
  utf8 : shadow (Utf8 l.rest);
  clean : has_zero l.rest ≡ false;
}

abbrev pub decreases-loop-next : goal.decreases-loop-next
decreases-loop-next l = length l.rest
