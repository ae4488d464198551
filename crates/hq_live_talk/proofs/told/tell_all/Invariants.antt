use Rattle.std.proofs.Common.{◌≡◌, ◌≤◌, ◌++◌, drop}
use Rattle.hq_live.specs.Asking.{KeepsFiles}
use Rattle.hq_live_talk.specs.Table.{told_texts, told_once, told_subscriptions}
use Rattle.hq_live_talk.specs.Talks.{IsOwn}
use Rattle.hq_live_talk.proofs.told.tell_all.Given as goal

-- what is left to be told, behind what was told, makes all of it
abbrev pub invariant-telling : goal.invariant-telling
invariant-telling g l = record {
  texts : l.texts.items ++ told_texts l.once.items (drop l.sent-index l.sends) ≡ l.fn.texts.items ++ told_texts l.fn.once.items l.sends;
  once : told_once l.once.items (drop l.sent-index l.sends) ≡ told_once l.fn.once.items l.sends;
  subscriptions : told_subscriptions l.who l.once.items (drop l.sent-index l.sends) l.live.subscriptions.items
      ≡ told_subscriptions l.who l.fn.once.items l.sends l.fn.live.subscriptions.items;
  due : g.A.Asker.due l.live.asker ≡ g.A.Asker.due l.fn.live.asker;
  next : g.A.Asker.next l.live.asker ≡ g.A.Asker.next l.fn.live.asker;
  files : KeepsFiles g.A.Asker.reads l.fn.live.asker l.live.asker;
  later : g.A.Asker.faults l.fn.live.asker ≤ g.A.Asker.faults l.live.asker;
  own : IsOwn l.who l.fn.live.subscriptions.items → IsOwn l.who l.live.subscriptions.items;
}
