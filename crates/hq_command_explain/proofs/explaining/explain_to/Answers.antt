use Rattle.hq_model.specs.Meta.{meta_view}
use Rattle.hq_command_explain.specs.Explaining.{input_explained}
use Rattle.hq_command_explain.proofs.Explained.{read_told}
use Rattle.hq_command_explain.proofs.explaining.explain_to.Goals as goal

pub returns-clause-told : goal.returns-clause-told
returns-clause-told g c =
    let engine = c.args.engine.now in
    read_told (g.S.Source.left c.args.input.now) c.in_ok-body.body c.as_slice.result.now
    (λ l. input_explained engine.catalog.tables (meta_view engine.meta) c.args.session.now l) (g.K.Sink.written c.args.out.now)
    (g.K.Sink.written c.explain_over.new.out)
    c.explain_over.result c.in_ok-body.ensures.told c.as_slice.ensures c.explain_over.ensures.told
