use Rattle.std.proofs.Common.{◌∙◌, ◌++◌, ◌+◌, Bool, List, map, filter, drop, sym, ap}
use Rattle.hq_model.specs.declared.session.Var.{Var}
use Rattle.hq_session.specs.Sessions.{is_variable, variable_of, new_variables}
use Rattle.hq_session.specs.declared.header.Header.{Header}
use Rattle.hq_session.proofs.Passed.{passed_from}
use Rattle.hq_session.proofs.session.variables.Goals as goal

-- a header is a new variable or none, and the loop goes on behind it
pub loop-header-preserved : goal.loop-header-preserved
loop-header-preserved c =
    let below = rw c.as_slice-header-items.ensures at c.loop-header-test.true in
    let is = rw c.as_slice-header-items.ensures at c.header-item.is in
    let passes : Header → Bool = λ h. is_variable h.name in
    let headers = c.args.headers.now in
    let i = c.loop-header.header-index in
    let vars = c.loop-header.vars in
    c.in_ok-add_variable.ensures (map variable_of (filter passes (drop (i + 1) headers)))
    ∙ ap (λ (later : List Var). vars ++ new_variables vars later) (sym (passed_from passes variable_of headers i c.header-item.result below is))
    ∙ c.loop-header.invariant
