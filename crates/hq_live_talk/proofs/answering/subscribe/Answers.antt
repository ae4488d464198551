use Rattle.hq_live.specs.Runs.{standing}
use Rattle.hq_live_talk.proofs.Rows.{subscribes_by}
use Rattle.hq_live_talk.proofs.answering.subscribe.Goals as goal

pub returns-clause-row : goal.returns-clause-row
returns-clause-row g c =
    let due = g.A.Asker.due in
    let next = g.A.Asker.next in
    let faults = g.A.Asker.faults in
    subscribes_by c.args.who c.args.id c.args.body c.args.is_lasting c.args.talking.now.session c.in-Some.session c.in_ok-session.session c.args.talking.now.once.items c.begin.new.once.items
    (standing (due c.args.live.now.asker) (next c.args.live.now.asker) (faults c.args.live.now.asker) c.args.live.now.subscriptions.items)
    (standing (due c.begin.new.live.asker) (next c.begin.new.live.asker) (faults c.begin.new.live.asker) c.begin.new.live.subscriptions.items)
    c.begin.result c.in-Some.is c.in_ok-session.ensures c.begin.ensures.begins
