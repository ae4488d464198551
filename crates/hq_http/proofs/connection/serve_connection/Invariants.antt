use Rattle.std.proofs.Common.{◌≤◌, ℕ, List}
use Rattle.hq_base.specs.declared.reply.Reply.{Reply}
use Rattle.hq_session.specs.declared.header.Header.{Header}
use Rattle.hq_http.specs.Serving.{Ran}
use Rattle.hq_http.proofs.connection.serve_connection.Given as goal

abbrev pub invariant-requests : goal.invariant-requests
invariant-requests g l = record {
  ready : g.H.Responder.ready l.responder;
  ran : Ran (g.H.Responder.may_deny l.fn.responder) (g.H.Responder.may_give l.fn.responder) (g.H.Responder.faults l.fn.responder)
      (g.H.Responder.faults l.responder) l.done (g.L.Link.left l.fn.link) (g.L.Link.left l.link) l.pending (g.L.Link.written l.fn.link)
      (g.L.Link.written l.link);
  same_deny : (headers : List Header) → g.H.Responder.may_deny l.responder headers → g.H.Responder.may_deny l.fn.responder headers;
  same_give : (headers : List Header) (body : List ℕ) (reply : Reply) → g.H.Responder.may_give l.responder headers body reply → g.H.Responder.may_give l.fn.responder headers body reply;
  later : g.H.Responder.faults l.fn.responder ≤ g.H.Responder.faults l.responder;
  reads : g.L.Link.read_faults l.fn.link ≤ g.L.Link.read_faults l.link;
  writes : g.L.Link.write_faults l.fn.link ≤ g.L.Link.write_faults l.link;
}
