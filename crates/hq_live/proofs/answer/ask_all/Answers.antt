use Rattle.std.proofs.Common.{◌∙◌, sym, subst, ◌+◌, List, take, arith}
use Rattle.hq_live.specs.Asking.{Due}
use Rattle.hq_live.specs.Answers.{IsAnswer, AreAnswers}
use Rattle.hq_live.specs.declared.answer.Polled.{Polled}
use Rattle.hq_live.proofs.Answers.{answers_step}
use Rattle.hq_live.proofs.answer.ask_all.Goals as goal

pub asking-preserved : goal.asking-preserved
asking-preserved g c =
    let due : Due = g.A.Asker.due c.args.asker.now in
    let faults = g.A.Asker.faults in
    let before = faults c.args.asker.now in
    let between = faults c.asking.asker in
    let now = faults c.ask.new.asker in
    let subs = c.args.subscriptions.now in
    let at = c.asking.subscription-index in
    let s = c.subscription-item.result in
    let a = c.in_ok-answer.answer in
    let One : Due → Type 0 = λ d. IsAnswer d s between now a in
    let All : List Polled → Type 0 = λ l. AreAnswers due before now (take (at + 1) subs) l in
    let one = subst One c.asking.invariant.due c.in_ok-answer.ensures.answer in
    let all = answers_step due before between now subs at c.asking.answers.items s a c.asking-test.true c.subscription-item.is c.asking.invariant.so_far one in
    record {
      so_far = subst All (sym c.in_ok-push.ensures.items) all;
      due = c.ask.ensures.due ∙ c.asking.invariant.due;
      next = c.ask.ensures.next ∙ c.asking.invariant.next;
      files = λ folder count here. c.ask.ensures.files folder count (c.asking.invariant.files folder count here);
      later = omega (arith, c.asking.invariant.later, c.ask.ensures.later);
    }
