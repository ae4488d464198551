use Rattle.hq_responder.proofs.Replies.{body_weaker, gives_same}
use Rattle.hq_responder.proofs.responder.EngineResponderResponder.respond.Goals as goal

pub returns-in-Session-clause-body : goal.returns-in-Session-clause-body
returns-in-Session-clause-body g c =
    body_weaker c.answer_for.result _ _ (λ reply is. (c.in-Session.session, c.in-Session.ensures, is)) c.answer_for.ensures.body

pub returns-in-Session-clause-same_give : goal.returns-in-Session-clause-same_give
returns-in-Session-clause-same_give g c =
    gives_same g.P.HookRule.allows c.args.self.now.hook.rule c.args.self.now.engine (g.D.Database.database c.args.self.now.db) (g.D.Database.database c.answer_for.new.db) c.answer_for.ensures.database
