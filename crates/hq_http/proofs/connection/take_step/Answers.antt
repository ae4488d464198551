use Rattle.std.proofs.Common.{◌∙◌, ap}
use Rattle.hq_http.specs.Serving.{over_as}
use Rattle.hq_http.proofs.Steps.{stepped_whole, stepped_refused, stepped_over, stepped_failed, over_no_read, over_no_write}
use Rattle.hq_http.proofs.connection.take_step.Goals as goal

pub returns-in-Whole-clause-stepped : goal.returns-in-Whole-clause-stepped
returns-in-Whole-clause-stepped g c =
    stepped_whole _ _ _ c.args.done _ (g.L.Link.left c.await_next.new.link) _ _ c.await_next.new.pending _ _
    (g.L.Link.written c.await_next.new.link) _ c.await_next.new.headers c.in-Whole.request c.serve_whole.result
    c.in-Whole.ensures.awaits c.in-Whole.ensures.written c.serve_whole.ensures.left c.serve_whole.ensures.served

pub returns-in-Refused-clause-stepped : goal.returns-in-Refused-clause-stepped
returns-in-Refused-clause-stepped g c =
    stepped_refused _ _ _ c.args.done _ (g.L.Link.left c.await_next.new.link) _ _ _ _ (g.L.Link.written c.await_next.new.link) _
    c.await_next.new.headers c.in-Refused.fault c.in-Refused.is_head c.refuse.result
    c.in-Refused.ensures.awaits c.in-Refused.ensures.written c.refuse.ensures.left c.refuse.ensures.refuses

pub returns-in-Over-clause-stepped : goal.returns-in-Over-clause-stepped
returns-in-Over-clause-stepped g c =
    stepped_over _ _ _ c.args.done _ _ _ _ _ _ c.await_next.new.headers c.over.result
    c.in-Over.ensures.awaits c.in-Over.ensures.written (c.over.ensures ∙ ap over_as c.as_slice-in-Over.ensures)

pub returns-in-Over-clause-read : goal.returns-in-Over-clause-read
returns-in-Over-clause-read g c e = absurd (over_no_read _ c.over.result c.over.ensures e)

pub returns-in-Over-clause-write : goal.returns-in-Over-clause-write
returns-in-Over-clause-write g c e = absurd (over_no_write _ c.over.result c.over.ensures e)

pub returns-in-Failed-clause-stepped : goal.returns-in-Failed-clause-stepped
returns-in-Failed-clause-stepped g c =
    stepped_failed _ _ _ c.args.done _ _ _ _ _ _ c.await_next.new.headers c.in-Failed.ensures.awaits c.in-Failed.ensures.written
