use Rattle.std.proofs.Common.{rules, ◌∙◌}
use Rattle.hq_live.specs.Runs.{standing}
use Rattle.hq_live_serve.proofs.Held.{next_held}
use Rattle.hq_live_serve.proofs.serving.talk_next.Goals as goal

pub returns-clause-holds : goal.returns-clause-holds
returns-clause-holds g c =
    let due = g.A.Asker.due in
    let next = g.A.Asker.next in
    let faults = g.A.Asker.faults in
    let now = c.args.live.now in
    let last = c.talk-end.new.live in
    next_held (g.P.HookRule.allows c.args.hook.now.rule) (record { left = g.H.Talk.Messages.left; sent = g.H.Talk.Messages.sent; faults = g.H.Talk.Messages.faults })
    (standing (due now.asker) (next now.asker) (faults now.asker) now.subscriptions.items) (standing (due last.asker) (next last.asker) (faults last.asker) last.subscriptions.items)
    (g.H.Hall.accepted c.args.hall.now) (g.H.Hall.accepted c.accept.new.self) (g.H.Hall.accepted c.close.new.self)
    (g.H.Hall.talks c.args.hall.now) (g.H.Hall.talks c.accept.new.self) (g.H.Hall.talks c.close.new.self)
    (g.H.Hall.present c.accept.new.self) c.present.result.now c.talk-end.new.link c.talk-end.result
    c.in_ok-accept.ensures.next c.present.ensures.value c.in_ok-accept.ensures.accepted c.accept.ensures.talks
    (c.close.ensures.accepted ∙ g.met.H.Hall.with_talk_accepted c.accept.new.self c.talk-end.new.link)
    (c.close.ensures.talks ∙ g.met.H.Hall.with_talk_talks c.accept.new.self c.talk-end.new.link (search rules))
    (record { talks = c.talk-end.ensures.talks; failed = c.talk-end.ensures.failed })
