use Rattle.hq_model.specs.Meta.{meta_view}
use Rattle.hq_app.proofs.Worlds.{told_alike}
use Rattle.hq_app.proofs.top.answer_one.Goals as goal

pub returns-clause-alike : goal.returns-clause-alike
returns-clause-alike g c = (
  c.reply_to.result,
  c.tell.ensures.status,
  told_alike c.args.engine.now c.args.session.now _ (g.S.Source.left c.args.input.now) (g.K.Sink.written c.args.out.now) (g.K.Sink.written c.reply_to.new.out) _ _ c.reply_to.result
      (c.outputs_agree.ensures c.args.engine.now.catalog.tables (meta_view c.args.engine.now.meta) c.args.session.now) c.reply_to.ensures.told,
)
