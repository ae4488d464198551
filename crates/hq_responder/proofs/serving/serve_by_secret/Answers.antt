use Rattle.std.proofs.Common.{ap}
use Rattle.hq_model.specs.Meta.{meta_view}
use Rattle.hq_responder.proofs.Replies.{serves_by}
use Rattle.hq_responder.proofs.serving.serve_by_secret.Goals as goal

pub returns-clause-serves : goal.returns-clause-serves
returns-clause-serves g c =
    serves_by c.new-hook.result.rule.now c.args.rule.now c.args.engine.catalog.tables (meta_view c.args.engine.meta) (g.B.Database.database c.args.db) _ c.args.connections
    (g.D.Door.accepted c.args.door.now) (g.D.Door.accepted c.serve-result.new.door) (g.D.Door.links c.args.door.now)
    (g.D.Door.links c.serve-result.new.door) (g.B.Database.faults c.args.db) (g.B.Database.faults c.serve-result.new.responder.db)
    (g.K.Sink.written c.args.out.now) (g.K.Sink.written c.serve-result.new.out) c.serve-result.result (ap (λ r. r.now) c.new-hook.ensures.rule) c.serve-result.ensures.serves
