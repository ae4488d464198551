use Rattle.std.proofs.Common.{◌≡◌, drop}
use Rattle.hq_session.specs.Sessions.{has_variable}
use Rattle.hq_session.proofs.session.has_variable.Given as goal

-- the name is that of one of the variables that are left
abbrev pub invariant-loop-var : goal.invariant-loop-var
invariant-loop-var l = has_variable (drop l.var-index l.vars) l.name ≡ has_variable l.vars l.name
