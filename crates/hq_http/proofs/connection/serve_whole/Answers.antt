use Rattle.std.proofs.Common.{sym, ◌∙◌}
use Rattle.std.specs.Io.KnownBytes.{IsAtEnd}
use Rattle.hq_http.specs.declared.respond.Response.{Response}
use Rattle.hq_http.specs.Connections.{Counts, failures_of}
use Rattle.hq_http.proofs.Served.{served_at, fault_sent, never_read}
use Rattle.hq_http.proofs.connection.serve_whole.Goals as goal

pub returns-clause-served : goal.returns-clause-served
returns-clause-served g c =
    served_at (g.H.Responder.may_deny c.args.responder.now) (g.H.Responder.may_give c.args.responder.now)
    (λ (x : Response). Counts (g.H.Responder.faults c.args.responder.now) (failures_of x) (g.H.Responder.faults c.respond_whole-response.new.responder))
    (IsAtEnd (g.L.Link.left c.args.link.now)) c.args.done c.as_slice.result.now c.args.pending.now c.advance.new.self
    (g.L.Link.written c.args.link.now) (g.L.Link.written c.send_response-sent.new.link) c.args.request c.respond_whole-response.result
    c.send_response-sent.result c.ends_after-closes.result c.step_after.result
    c.as_slice.ensures c.step_after.ensures c.requires.few c.ends_after-closes.ensures c.respond_whole-response.ensures.responds
    c.respond_whole-response.ensures.failures c.advance.ensures c.send_response-sent.ensures.writes

pub returns-clause-fault : goal.returns-clause-fault
returns-clause-fault g c e = c.send_response-sent.ensures.fault (fault_sent c.send_response-sent.result c.ends_after-closes.result c.args.done (sym c.step_after.ensures ∙ e))

pub returns-clause-sound : goal.returns-clause-sound
returns-clause-sound g c e = never_read c.send_response-sent.result c.ends_after-closes.result c.args.done (sym c.step_after.ensures ∙ e)
