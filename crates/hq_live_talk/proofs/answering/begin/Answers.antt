use Rattle.std.proofs.Common.{refl, ap, inr, Err, Option}
use Rattle.hq_model.specs.declared.session.Session.{Session}
use Rattle.hq_live.specs.Runs.{Standing, standing}
use Rattle.hq_live.specs.declared.event.Event.{Event}
use Rattle.hq_live.specs.declared.event.Event.TheVariants as event
use Rattle.hq_live_talk.specs.Table.{Talk, talk_of}
use Rattle.hq_live_talk.proofs.Rows.{begins_sent, too_many_text}
use Rattle.hq_live_talk.proofs.answering.begin.Goals as goal

pub returns-in-Ok-clause-begins : goal.returns-in-Ok-clause-begins
returns-in-Ok-clause-begins g c = λ (kept : Option Session).
    let due = g.A.Asker.due in
    let next = g.A.Asker.next in
    let faults = g.A.Asker.faults in
    let s : Talk = talk_of kept c.args.once.now.items (standing (due c.args.live.now.asker) (next c.args.live.now.asker) (faults c.args.live.now.asker) c.args.live.now.subscriptions.items) in
    let mid : Standing = standing (due c.step.new.live.asker) (next c.step.new.live.asker) (faults c.step.new.live.asker) c.step.new.live.subscriptions.items in
    let t : Talk =
    talk_of kept c.tell_all.new.once.items
    (standing (due c.tell_all.new.live.asker) (next c.tell_all.new.live.asker) (faults c.tell_all.new.live.asker)
    c.tell_all.new.live.subscriptions.items) in
    let told = c.in_ok-tell_all-in-Ok.ensures in
    begins_sent c.args.who c.args.id c.in_ok-name.name c.args.is_lasting c.args.once.now.items c.keep.new.once.items
    (event.Subscribe c.args.who c.args.id c.args.session c.args.body) s t mid c.in-Ok.sends c.as_slice.result.now c.new-texts.result.items c.tell_all.new.texts.items
    c.in_ok-name.ensures c.in_ok-keep-in-Ok.ensures c.as_slice.ensures c.in-Ok.ensures.ok
    (record { session = refl; once = told.once; due = told.due; next = told.next; faults = told.later; subscriptions = told.subscriptions })
    c.new-texts.ensures.items told.texts

pub returns-in-Err-TooMany-clause-begins : goal.returns-in-Err-TooMany-clause-begins
returns-in-Err-TooMany-clause-begins g c = λ (kept : Option Session).
    let e = c.in-Err-TooMany.ensures in
    let many = e.too_many (ap Err c.in-Err-TooMany.field-0-is) in
    inr (inr (
      many.0,
      many.1,
      (
        record { session = refl; once = refl; live = e.stays },
        too_many_text c.args.id c.in_ok-name.name c.in_ok-text-in-Err-TooMany.text c.in_ok-told-in-Err-TooMany.told.items
            c.in_ok-name.ensures c.in_ok-text-in-Err-TooMany.ensures c.in_ok-told-in-Err-TooMany.ensures,
        refl,
      ),
    ))
