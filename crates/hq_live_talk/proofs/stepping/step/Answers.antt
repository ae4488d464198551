use Rattle.hq_live.specs.Runs.{Standing, standing}
use Rattle.hq_live_talk.proofs.Steps.{passes_by, stays_by, own_by}
use Rattle.hq_live_talk.proofs.stepping.step.Goals as goal

pub returns-clause-ok : goal.returns-clause-ok
returns-clause-ok g c =
    let s : Standing = standing (g.A.Asker.due c.args.live.now.asker) (g.A.Asker.next c.args.live.now.asker) (g.A.Asker.faults c.args.live.now.asker) c.args.live.now.subscriptions.items in
    let t : Standing = standing (g.A.Asker.due c.step.new.self.asker) (g.A.Asker.next c.step.new.self.asker) (g.A.Asker.faults c.step.new.self.asker) c.step.new.self.subscriptions.items in
    passes_by c.args.event s t c.step.result c.step.ensures.ok c.step.ensures.repeated c.step.ensures.too_many c.step.ensures.asker

pub returns-clause-stays : goal.returns-clause-stays
returns-clause-stays g c =
    let s : Standing = standing (g.A.Asker.due c.args.live.now.asker) (g.A.Asker.next c.args.live.now.asker) (g.A.Asker.faults c.args.live.now.asker) c.args.live.now.subscriptions.items in
    let t : Standing = standing (g.A.Asker.due c.step.new.self.asker) (g.A.Asker.next c.step.new.self.asker) (g.A.Asker.faults c.step.new.self.asker) c.step.new.self.subscriptions.items in
    stays_by c.args.event s t c.step.result c.step.ensures.err c.step.ensures.asker c.step.ensures.later

pub returns-clause-own : goal.returns-clause-own
returns-clause-own g c =
    let s : Standing = standing (g.A.Asker.due c.args.live.now.asker) (g.A.Asker.next c.args.live.now.asker) (g.A.Asker.faults c.args.live.now.asker) c.args.live.now.subscriptions.items in
    let t : Standing = standing (g.A.Asker.due c.step.new.self.asker) (g.A.Asker.next c.step.new.self.asker) (g.A.Asker.faults c.step.new.self.asker) c.step.new.self.subscriptions.items in
    own_by c.args.who c.args.event s t c.step.result c.requires
    (passes_by c.args.event s t c.step.result c.step.ensures.ok c.step.ensures.repeated c.step.ensures.too_many c.step.ensures.asker)
    c.step.ensures.err
