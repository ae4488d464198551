use Rattle.std.proofs.Common.{◌∙◌, Err, ap}
use Rattle.std.proofs.lemmas.Result.{err_from_is_err_and}
use Rattle.hq_copy_tables.specs.Originals.{meta_in, role_in}
use Rattle.hq_copy.specs.Redacting.{copy_due}
use Rattle.hq_copy.proofs.Answering.{passed_tells, passed_told, planned_answers, planned_tells}
use Rattle.hq_copy.proofs.redacting.copied_for.Goals as goal

pub returns-in_err-plan-clause-due : goal.returns-in_err-plan-clause-due
returns-in_err-plan-clause-due g c =
    let p = err_from_is_err_and c.from_residual.result c.from_residual.ensures.1 in
    let o = c.args.original.now in
    passed_told (g.T.Tables.database c.args.tables.now) (λ d. copy_due o.scope.catalog.now.tables (meta_in o) c.args.session.now d) c.from_residual.result c.in_err-plan.field-0.0
    (p.1 ∙ ap (λ e. Err e) p.2)
    (planned_answers o.scope.catalog.now.tables (meta_in o) c.args.session.now (role_in o) c.requires.role c.in_err-plan.field-0.0 c.in_err-plan.ensures.refused
    (g.T.Tables.database c.args.tables.now))

pub returns-in_err-plan-clause-failed : goal.returns-in_err-plan-clause-failed
returns-in_err-plan-clause-failed g c =
    let p = err_from_is_err_and c.from_residual.result c.from_residual.ensures.1 in
    let o = c.args.original.now in
    let n = g.T.Tables.faults c.args.tables.now in
    passed_tells n n c.from_residual.result c.in_err-plan.field-0.0 (p.1 ∙ ap (λ e. Err e) p.2)
    (planned_tells o.scope.catalog.now.tables (meta_in o) c.args.session.now (role_in o) n n c.in_err-plan.field-0.0 c.in_err-plan.ensures.refused)
