use Rattle.hq_http.proofs.respond.respond_at.Goals as goal

pub returns-in-Graphql-clause-responds : goal.returns-in-Graphql-clause-responds
returns-in-Graphql-clause-responds g c = rw c.in-Graphql.is c.ask_responder.ensures.responds
