use Rattle.std.proofs.Common.{rules, refl}
use Rattle.hq_http.proofs.Runs.{connects_nothing, ran_more, ran_stops}
use Rattle.hq_http.proofs.connection.serve_connection.Goals as goal

pub returns-in_default-clause-connects : goal.returns-in_default-clause-connects
returns-in_default-clause-connects g c = connects_nothing _ _ _ _ _ _ refl

pub returns-in-Ends-clause-connects : goal.returns-in-Ends-clause-connects
returns-in-Ends-clause-connects g c =
    ran_stops _ (g.H.Responder.may_deny c.requests.responder) _ (g.H.Responder.may_give c.requests.responder) _
    (g.H.Responder.faults c.requests.responder) _ c.requests.done _ (g.L.Link.left c.requests.link) _ c.requests.pending
    c.in-Ends.ensures.stepped.piece _ (g.L.Link.written c.requests.link) _ c.in-Ends.end
    c.requests.invariant.ran c.requests.invariant.same_deny c.requests.invariant.same_give c.in-Ends.ensures.stepped.consumed c.in-Ends.ensures.later c.in-Ends.ensures.stepped.served

pub requests-preserved : goal.requests-preserved
requests-preserved g c = record {
  ready = search rules;
  ran =
      ran_more _ (g.H.Responder.may_deny c.requests.responder) _ (g.H.Responder.may_give c.requests.responder) _
      (g.H.Responder.faults c.requests.responder) _ c.requests.done _ (g.L.Link.left c.requests.link) _ c.requests.pending
      c.take_step.new.pending c.in-GoesOn.ensures.stepped.piece _ (g.L.Link.written c.requests.link) _
      c.requests.invariant.ran c.requests.invariant.same_deny c.requests.invariant.same_give c.in-GoesOn.ensures.stepped.consumed c.in-GoesOn.ensures.stepped.served;
  same_deny = λ headers h. c.requests.invariant.same_deny headers (c.in-GoesOn.ensures.same_deny headers h);
  same_give = λ headers body reply h. c.requests.invariant.same_give headers body reply (c.in-GoesOn.ensures.same_give headers body reply h);
  later = search rules;
  reads = search rules;
  writes = search rules;
}
