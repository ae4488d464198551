use Rattle.std.proofs.Common.{rules, ◌∙◌, ◌++◌, ◌∷◌, [], ◌+◌, ap, length-append}
use Rattle.hq_live.specs.Runs.{standing}
use Rattle.hq_live_talk.specs.Table.{Talk, talk_of}
use Rattle.hq_live_talk.specs.Talks.{Link, link_of}
use Rattle.hq_live_talk.proofs.Turns.{ran_more}
use Rattle.hq_live_talk.proofs.talking.take_turns.Goals as goal

pub turns-preserved : goal.turns-preserved
turns-preserved g c =
    let first : Talk =
    talk_of c.args.talking.now.session c.args.talking.now.once.items
    (standing (g.A.Asker.due c.args.live.now.asker) (g.A.Asker.next c.args.live.now.asker) (g.A.Asker.faults c.args.live.now.asker)
    c.args.live.now.subscriptions.items) in
    let mid : Talk =
    talk_of c.turns.talking.session c.turns.talking.once.items
    (standing (g.A.Asker.due c.turns.live.asker) (g.A.Asker.next c.turns.live.asker) (g.A.Asker.faults c.turns.live.asker)
    c.turns.live.subscriptions.items) in
    let last : Talk =
    talk_of c.take_turn.new.talking.session c.take_turn.new.talking.once.items
    (standing (g.A.Asker.due c.take_turn.new.live.asker) (g.A.Asker.next c.take_turn.new.live.asker)
    (g.A.Asker.faults c.take_turn.new.live.asker) c.take_turn.new.live.subscriptions.items) in
    let a : Link = link_of (g.M.Messages.left c.args.link.now) (g.M.Messages.sent c.args.link.now) in
    let b : Link = link_of (g.M.Messages.left c.turns.link) (g.M.Messages.sent c.turns.link) in
    let e : Link = link_of (g.M.Messages.left c.take_turn.new.link) (g.M.Messages.sent c.take_turn.new.link) in
    let h = c.in-None.ensures.turned in
    let r = c.turns.invariant.ran in
    record {
      ran = (r.0 ++ h.0 ∷ [], length-append r.0 (h.0 ∷ []) ∙ ap (λ n. n + 1) r.1, ran_more (g.P.HookRule.allows c.args.hook.now.rule) c.args.who first mid last a b e r.0 h.0 r.2 h.1);
      later = search rules;
      files = λ folder count here. c.take_turn.ensures.files folder count (c.turns.invariant.files folder count here);
      asker_later = search rules;
      own = search rules;
    }
