use Rattle.std.proofs.Common.{◌∙◌, ap, Err}
use Rattle.std.proofs.lemmas.Result.{err_from_is_err_and}
use Rattle.hq_model.specs.Meta.{meta_view}
use Rattle.hq_command.proofs.Lines.{gen_cut, gen_wrote, generated_lines}
use Rattle.hq_command.proofs.generating.generate_and_answer.Goals as goal

pub returns-in_err-write_all-clause-told : goal.returns-in_err-write_all-clause-told
returns-in_err-write_all-clause-told g c =
    let p = err_from_is_err_and c.from_residual-in_err-write_all.result c.from_residual-in_err-write_all.ensures.1 in
    let made = c.in_ok-generate.field-0 in
    let lines = generated_lines c.args.n c.in_ok-text.ensures.0 made.catalog.tables (meta_view made.meta) made.rows c.in_ok-text.text
    c.in_ok-generate.ensures.tables c.in_ok-generate.ensures.meta c.in_ok-generate.ensures.rows c.in_ok-text.ensures.1 in
    gen_cut c.args.n c.in_ok-text.ensures.0 (g.K.Sink.written c.args.out.now) (g.K.Sink.written c.write_all.new.out) c.in_ok-text.text c.as_slice.result.now
    c.from_residual-in_err-write_all.result (p.1 ∙ ap (λ e. Err e) p.2) lines c.as_slice.ensures c.in_err-write_all.ensures.prefix

pub returns-clause-told : goal.returns-clause-told
returns-clause-told g c =
    let made = c.in_ok-generate.field-0 in
    let lines = generated_lines c.args.n c.in_ok-text.ensures.0 made.catalog.tables (meta_view made.meta) made.rows c.in_ok-text.text
    c.in_ok-generate.ensures.tables c.in_ok-generate.ensures.meta c.in_ok-generate.ensures.rows c.in_ok-text.ensures.1 in
    gen_wrote c.args.n c.in_ok-text.ensures.0 (g.K.Sink.written c.args.out.now) (g.K.Sink.written c.write_all.new.out) c.in_ok-text.text c.as_slice.result.now
    lines c.as_slice.ensures c.in_ok-write_all.ensures.ok
