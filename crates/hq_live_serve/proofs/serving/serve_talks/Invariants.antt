use Rattle.std.proofs.Common.{◌≡◌, ◌≤◌, []}
use Rattle.std.specs.Prelude.{IsNone}
use Rattle.hq_live.specs.Asking.{KeepsFiles}
use Rattle.hq_live.specs.Runs.{standing}
use Rattle.hq_live_serve.specs.Serving.{HeldSoFar}
use Rattle.hq_live_serve.proofs.serving.serve_talks.Given as goal

abbrev pub invariant-talks : goal.invariant-talks
invariant-talks g l = record {
  held : HeldSoFar (g.P.HookRule.allows l.hook.rule) (record { left = g.H.Talk.Messages.left; sent = g.H.Talk.Messages.sent; faults = g.H.Talk.Messages.faults }) l.served
      (standing (g.A.Asker.due l.fn.live.asker) (g.A.Asker.next l.fn.live.asker) (g.A.Asker.faults l.fn.live.asker) l.fn.live.subscriptions.items)
      (standing (g.A.Asker.due l.live.asker) (g.A.Asker.next l.live.asker) (g.A.Asker.faults l.live.asker) l.live.subscriptions.items)
      (g.H.Hall.accepted l.fn.hall) (g.H.Hall.accepted l.hall) (g.H.Hall.talks l.fn.hall) (g.H.Hall.talks l.hall)
      (g.K.Sink.written l.fn.out) (g.K.Sink.written l.out);
  none : l.live.subscriptions.items ≡ [];
  closed : IsNone (g.H.Hall.present l.fn.hall) → IsNone (g.H.Hall.present l.hall);
  hall : g.H.Hall.faults l.fn.hall ≤ g.H.Hall.faults l.hall;
  out : g.K.Sink.faults l.fn.out ≤ g.K.Sink.faults l.out;
  asker : g.A.Asker.faults l.fn.live.asker ≤ g.A.Asker.faults l.live.asker;
  files : KeepsFiles g.A.Asker.reads l.fn.live.asker l.live.asker;
}
