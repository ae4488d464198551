use Rattle.std.proofs.Common.{◌∙◌, sym}
use Rattle.std.proofs.lemmas.Result.{on_ok_weaker}
use Rattle.hq_session.proofs.Added.{none_added, known_added, new_added}
use Rattle.hq_session.proofs.session.add_variable.Goals as goal
use Rattle.hq_session.proofs.session.add_variable.Goals.{then-not-is_variable-via-then-not-is_variable, then-not-is_variable-via-else-not-is_variable+then-has_variable}

pub returns : goal.returns
returns c =
    let is = sym c.is_variable.ensures ∙ c.if-not-is_variable.false in
    let new = sym c.has_variable.ensures ∙ c.if-has_variable.false in
    on_ok_weaker c.push.result (new_added c.args.vars.now c.push.new.self c.args.header.now c.in_ok-variable.field-0 is new c.in_ok-variable.ensures) c.push.ensures.ok

pub returns-then-not-is_variable : goal.returns-then-not-is_variable
returns-then-not-is_variable c = elim c.then-not-is_variable.branch [
  | then-not-is_variable-via-then-not-is_variable w ↦ none_added c.args.vars.now c.args.header.now (sym c.is_variable.ensures ∙ w.if-not-is_variable.true)
  | then-not-is_variable-via-else-not-is_variable+then-has_variable w ↦
      known_added c.args.vars.now c.args.header.now (sym c.is_variable.ensures ∙ w.if-not-is_variable.false) (sym w.has_variable.ensures ∙ w.if-has_variable.true)
]
