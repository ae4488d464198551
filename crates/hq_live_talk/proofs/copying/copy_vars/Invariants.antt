use Rattle.std.proofs.Common.{◌≡◌, take}
use Rattle.hq_live_talk.proofs.copying.copy_vars.Given as goal

abbrev pub invariant-vars : goal.invariant-vars
invariant-vars l = l.copy ≡ take l.var-index l.vars
