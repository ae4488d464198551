use Rattle.std.proofs.Common.{◌≡◌, ◌≤◌, List, length}
use Rattle.hq_live.specs.Asking.{KeepsFiles}
use Rattle.hq_live.specs.Runs.{standing}
use Rattle.hq_messages.specs.declared.messages.In.{In}
use Rattle.hq_live_talk.specs.Table.{talk_of}
use Rattle.hq_live_talk.specs.Talks.{IsOwn, Ran, link_of}
use Rattle.hq_live_talk.proofs.talking.take_turns.Given as goal

abbrev pub invariant-turns : goal.invariant-turns
invariant-turns g l = record {
  ran : (messages : List In) × (length messages ≡ l.done) × Ran (g.P.HookRule.allows l.hook.rule) l.who
      (talk_of l.fn.talking.session l.fn.talking.once.items
      (standing (g.A.Asker.due l.fn.live.asker) (g.A.Asker.next l.fn.live.asker) (g.A.Asker.faults l.fn.live.asker)
      l.fn.live.subscriptions.items))
      (talk_of l.talking.session l.talking.once.items (standing (g.A.Asker.due l.live.asker) (g.A.Asker.next l.live.asker) (g.A.Asker.faults l.live.asker) l.live.subscriptions.items))
      (link_of (g.M.Messages.left l.fn.link) (g.M.Messages.sent l.fn.link)) (link_of (g.M.Messages.left l.link) (g.M.Messages.sent l.link)) messages;
  later : g.M.Messages.faults l.fn.link ≤ g.M.Messages.faults l.link;
  files : KeepsFiles g.A.Asker.reads l.fn.live.asker l.live.asker;
  asker_later : g.A.Asker.faults l.fn.live.asker ≤ g.A.Asker.faults l.live.asker;
  own : IsOwn l.who l.fn.live.subscriptions.items → IsOwn l.who l.live.subscriptions.items;
}
