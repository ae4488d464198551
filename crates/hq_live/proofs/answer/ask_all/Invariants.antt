use Rattle.std.proofs.Common.{◌≡◌, ◌≤◌, take}
use Rattle.hq_live.specs.Asking.{KeepsFiles}
use Rattle.hq_live.specs.Answers.{AreAnswers}
use Rattle.hq_live.proofs.answer.ask_all.Given as goal

abbrev pub invariant-asking : goal.invariant-asking
invariant-asking g l = record {
  so_far : AreAnswers (g.A.Asker.due l.fn.asker) (g.A.Asker.faults l.fn.asker) (g.A.Asker.faults l.asker) (take l.subscription-index l.subscriptions) l.answers.items;
  due : g.A.Asker.due l.asker ≡ g.A.Asker.due l.fn.asker;
  next : g.A.Asker.next l.asker ≡ g.A.Asker.next l.fn.asker;
  files : KeepsFiles g.A.Asker.reads l.fn.asker l.asker;
  later : g.A.Asker.faults l.fn.asker ≤ g.A.Asker.faults l.asker;
}
