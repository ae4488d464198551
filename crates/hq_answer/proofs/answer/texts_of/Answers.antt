use Rattle.hq_answer.proofs.Members.{one_more_text}
use Rattle.hq_answer.proofs.answer.texts_of.Goals as goal

pub loop-member-preserved : goal.loop-member-preserved
loop-member-preserved c =
    let inside = rw c.deref-member-items.ensures.value at c.loop-member-test.true in
    let is = rw c.deref-member-items.ensures.value at c.member-item.is in
    one_more_text c.args.members.now.items c.loop-member.member-index c.member-item.result c.loop-member.texts.items c.push.new.self.items _
    inside is c.in_ok-name.ensures c.in_ok-text.ensures c.loop-member.invariant c.in_ok-push.ensures.items
