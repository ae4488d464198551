use Rattle.std.proofs.Common.{List, refl, subst}
use Rattle.hq_session.specs.declared.header.Header.{Header}
use Rattle.hq_http.specs.Connections.{replied}
use Rattle.hq_http.proofs.respond.ask_responder.Goals as goal

pub returns-in-Body-clause-responds : goal.returns-in-Body-clause-responds
returns-in-Body-clause-responds g c =
    replied c.in-Body.reply refl refl
    (subst (λ (headers : List Header). g.H.Responder.may_give c.args.responder.now headers c.args.body.now c.in-Body.reply) c.in-Ok.ensures c.in-Body.ensures.body)
