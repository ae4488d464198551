use Rattle.std.proofs.Common.{◌≡◌, ◌&&◌, length, drop}
use Rattle.std.specs.Str.{bytes_eq}
use Rattle.hq_session.proofs.secret.is_same.Given as goal

-- the bytes so far are the same, and what is left decides
abbrev pub invariant-loop-i : goal.invariant-loop-i
invariant-loop-i l = record {
  long : length l.given ≡ length l.secret;
  same : (l.same && bytes_eq (drop l.i l.given) (drop l.i l.secret)) ≡ bytes_eq l.given l.secret;
}
