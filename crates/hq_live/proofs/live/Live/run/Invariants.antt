use Rattle.std.proofs.Common.{◌≡◌, ◌++◌}
use Rattle.std.specs.Vec.Iter.{into_iter_items}
use Rattle.hq_live.specs.Runs.{Runs, standing}
use Rattle.hq_live.proofs.live.Live.run.Given as goal

-- the events so far have run, and with those that are left they are all
abbrev pub invariant-running : goal.invariant-running
invariant-running g l = record {
  ran : Runs l.yielded
      (standing (g.A.Asker.due l.fn.self.asker) (g.A.Asker.next l.fn.self.asker) (g.A.Asker.faults l.fn.self.asker) l.fn.self.subscriptions.items)
      (standing (g.A.Asker.due l.self.asker) (g.A.Asker.next l.self.asker) (g.A.Asker.faults l.self.asker) l.self.subscriptions.items)
      l.sends.items;
  items : l.yielded ++ into_iter_items l.event-iterator ≡ l.fn.events;
}
