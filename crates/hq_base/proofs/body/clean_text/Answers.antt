use Rattle.std.proofs.lemmas.Result.{err_from_is_err_and}
use Rattle.hq_base.proofs.Reading.{clean_at_err}
use Rattle.hq_base.proofs.body.clean_text.Goals as goal

pub returns-in_err-of : goal.returns-in_err-of
returns-in_err-of c =
    let p = err_from_is_err_and c.from_residual.result c.from_residual.ensures.1 in
    rw (p.1, p.2) (clean_at_err c.args.text.now c.in_err-of.field-0.0 c.utf8.text (rw (← c.as_bytes.ensures.value) c.in_err-of.ensures))
