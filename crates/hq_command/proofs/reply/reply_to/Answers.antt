use Rattle.std.proofs.Common.{◌∙◌, ap, Err, ℕ, List}
use Rattle.std.proofs.lemmas.Result.{err_from_is_err_and}
use Rattle.hq_io.specs.Streams.{ReadsAll}
use Rattle.hq_command.specs.declared.reply.TheConstants.{INPUT_LIMIT}
use Rattle.hq_command.proofs.Endings.{told_at, told_one, input_answers}
use Rattle.hq_command.proofs.reply.reply_to.Goals as goal

pub returns-in_err-body-clause-told : goal.returns-in_err-body-clause-told
returns-in_err-body-clause-told g c =
    let p = err_from_is_err_and c.from_residual.result c.from_residual.ensures.1 in
    let e = c.in_err-body.field-0.0 in
    told_one (g.S.Source.left c.args.input.now) _ (λ left is.
    input_answers c.args.engine.now c.args.session.now (g.D.Database.database c.args.db.now) left _ _ e c.from_residual.result (p.1 ∙ ap (λ r. Err r) p.2)
    (told_at (g.S.Source.left c.args.input.now) left (λ (l : List ℕ). ReadsAll INPUT_LIMIT l (Err e)) is c.in_err-body.ensures.told))
