use Rattle.std.proofs.Common.{◌≡◌, ◌++◌, map, filter, drop}
use Rattle.hq_session.specs.Sessions.{is_variable, variable_of, new_variables, variables_in}
use Rattle.hq_session.proofs.session.variables.Given as goal

-- the variables so far, and the new ones of the headers that are left, are those of all
abbrev pub invariant-loop-header : goal.invariant-loop-header
invariant-loop-header l =
    l.vars ++ new_variables l.vars (map variable_of (filter (λ h. is_variable h.name) (drop l.header-index l.headers))) ≡ variables_in l.headers
