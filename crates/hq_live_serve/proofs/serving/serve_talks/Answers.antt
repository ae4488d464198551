use Rattle.std.proofs.Common.{rules}
use Rattle.hq_live.specs.Runs.{standing}
use Rattle.hq_live_serve.proofs.Runs.{held_none, held_more, serves_unwritten}
use Rattle.hq_live_serve.proofs.serving.serve_talks.Goals as goal

pub talks-init : goal.talks-init
talks-init g c = record {
  held = held_none _ _ _ (g.H.Hall.accepted c.args.hall.now) (g.H.Hall.talks c.args.hall.now) (g.K.Sink.written c.args.out.now);
  none = search rules;
  closed = λ none. none;
  hall = search rules;
  out = search rules;
  asker = search rules;
  files = λ folder count here. here;
}

pub returns-in-Err-clause-serves : goal.returns-in-Err-clause-serves
returns-in-Err-clause-serves g c =
    let due = g.A.Asker.due in
    let next = g.A.Asker.next in
    let faults = g.A.Asker.faults in
    let first = c.args.live.now in
    let now = c.talks.live in
    let last = c.talk_next.new.live in
    serves_unwritten (g.P.HookRule.allows c.args.hook.now.rule) (record { left = g.H.Talk.Messages.left; sent = g.H.Talk.Messages.sent; faults = g.H.Talk.Messages.faults }) c.talks.served
    (standing (due first.asker) (next first.asker) (faults first.asker) first.subscriptions.items) (standing (due now.asker) (next now.asker) (faults now.asker) now.subscriptions.items)
    (standing (due last.asker) (next last.asker) (faults last.asker) last.subscriptions.items)
    (g.H.Hall.accepted c.args.hall.now) (g.H.Hall.accepted c.talks.hall) (g.H.Hall.accepted c.talk_next.new.hall)
    (g.H.Hall.talks c.args.hall.now) (g.H.Hall.talks c.talks.hall) (g.H.Hall.talks c.talk_next.new.hall)
    (g.K.Sink.written c.args.out.now) (g.K.Sink.written c.talks.out) (g.K.Sink.written c.write_line.new.out) c.in-Ok.end
    c.talks.invariant.held c.in-Ok.ensures.holds c.args.connections c.in-Err.refusal c.talks-test.true c.in-Err.ensures.wrote

pub talks-preserved : goal.talks-preserved
talks-preserved g c =
    let due = g.A.Asker.due in
    let next = g.A.Asker.next in
    let faults = g.A.Asker.faults in
    let first = c.args.live.now in
    let now = c.talks.live in
    let last = c.talk_next.new.live in
    record {
      held = held_more (g.P.HookRule.allows c.args.hook.now.rule) (record { left = g.H.Talk.Messages.left; sent = g.H.Talk.Messages.sent; faults = g.H.Talk.Messages.faults }) c.talks.served
          (standing (due first.asker) (next first.asker) (faults first.asker) first.subscriptions.items) (standing (due now.asker) (next now.asker) (faults now.asker) now.subscriptions.items)
          (standing (due last.asker) (next last.asker) (faults last.asker) last.subscriptions.items)
          (g.H.Hall.accepted c.args.hall.now) (g.H.Hall.accepted c.talks.hall) (g.H.Hall.accepted c.talk_next.new.hall)
          (g.H.Hall.talks c.args.hall.now) (g.H.Hall.talks c.talks.hall) (g.H.Hall.talks c.talk_next.new.hall)
          (g.K.Sink.written c.args.out.now) (g.K.Sink.written c.talks.out) (g.K.Sink.written c.write_line.new.out) c.in-Ok.end
          c.talks.invariant.held c.in-Ok.ensures.holds c.in-Ok-write_line.ensures.ok;
      none = search rules;
      closed = λ none. c.in-Ok.ensures.closed;
      hall = search rules;
      out = search rules;
      asker = search rules;
      files = λ folder count here. c.in-Ok.ensures.files folder count (c.talks.invariant.files folder count here);
    }
