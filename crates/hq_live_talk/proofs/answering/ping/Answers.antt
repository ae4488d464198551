use Rattle.std.proofs.Common.{refl}
use Rattle.hq_live.specs.Runs.{Standing, standing}
use Rattle.hq_live_talk.specs.Table.{Talk, talk_of}
use Rattle.hq_live_talk.proofs.Rows.{pings_sent}
use Rattle.hq_live_talk.proofs.answering.ping.Goals as goal

pub returns-clause-row : goal.returns-clause-row
returns-clause-row g c =
    let due = g.A.Asker.due in
    let next = g.A.Asker.next in
    let faults = g.A.Asker.faults in
    let s : Talk =
    talk_of c.args.talking.now.session c.args.talking.now.once.items
    (standing (due c.args.live.now.asker) (next c.args.live.now.asker) (faults c.args.live.now.asker)
    c.args.live.now.subscriptions.items) in
    let new : Standing = standing (due c.reload.new.live.asker) (next c.reload.new.live.asker) (faults c.reload.new.live.asker) c.reload.new.live.subscriptions.items in
    let mid : Standing = standing (due c.step.new.live.asker) (next c.step.new.live.asker) (faults c.step.new.live.asker) c.step.new.live.subscriptions.items in
    let t : Talk =
    talk_of c.args.talking.now.session c.tell_all.new.once.items
    (standing (due c.tell_all.new.live.asker) (next c.tell_all.new.live.asker) (faults c.tell_all.new.live.asker)
    c.tell_all.new.live.subscriptions.items) in
    let told = c.in_ok-tell_all.ensures in
    pings_sent c.args.who c.args.talking.now.session _ s t new mid c.in-Ok.sends c.as_slice.result.now c.in_ok-pong.pong c.in_ok-texts.texts.items c.tell_all.new.texts.items
    c.in-Some.is c.as_slice.ensures c.in_ok-reload.ensures.reloads c.in-Ok.ensures.ok
    (record { session = refl; once = told.once; due = told.due; next = told.next; faults = told.later; subscriptions = told.subscriptions })
    c.in_ok-pong.ensures c.in_ok-texts.ensures told.texts
