use Rattle.hq_model.specs.Meta.{meta_view}
use Rattle.hq_command_explain.proofs.Explained.{over_loaded}
use Rattle.hq_command_explain.proofs.explaining.explain_loaded.Goals as goal

pub returns-clause-told : goal.returns-clause-told
returns-clause-told g c =
    over_loaded c.args.session.now (g.S.Source.left c.args.input.now) c.args.loaded.catalog.tables _ (meta_view c.args.loaded.meta) _
    (g.K.Sink.written c.args.out.now) (g.K.Sink.written c.explain_to.new.out) c.explain_to.result
    c.in_ok-engine.ensures.0 c.in_ok-engine.ensures.1 c.explain_to.ensures.told
