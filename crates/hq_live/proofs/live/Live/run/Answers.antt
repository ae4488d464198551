use Rattle.std.proofs.Common.{◌≡◌, ◌++◌, ◌∷◌, [], ◌∙◌, ap, sym, List, Err, arith, subst, append-nil}
use Rattle.std.proofs.lemmas.List.{nil_from_length}
use Rattle.std.specs.Vec.Iter.{into_iter_items}
use Rattle.hq_live.specs.Steps.{IsTooMany, is_repeated}
use Rattle.hq_live.specs.Runs.{Runs, RunsInPart, IsTaken, Stays, Standing, standing}
use Rattle.hq_live.specs.declared.event.Event.{Event}
use Rattle.hq_live.specs.declared.event.Sent.{Sent}
use Rattle.hq_live.specs.declared.refusal.StepRefusal.TheVariants as refusal
use Rattle.hq_live.proofs.Plain.{runs_plain}
use Rattle.hq_live.proofs.Running.{runs_more, items_more, is_taken, refused_at, lost_at, passed_on, no_refusal}
use Rattle.hq_live.proofs.live.Live.run.Goals as goal

pub returns-in_err-more-clause-refused : goal.returns-in_err-more-clause-refused
returns-in_err-more-clause-refused g c =
    let s : Standing = standing (g.A.Asker.due c.args.self.now.asker) (g.A.Asker.next c.args.self.now.asker) (g.A.Asker.faults c.args.self.now.asker) c.args.self.now.subscriptions.items in
    let m : Standing = standing (g.A.Asker.due c.running.self.asker) (g.A.Asker.next c.running.self.asker) (g.A.Asker.faults c.running.self.asker) c.running.self.subscriptions.items in
    let t : Standing = standing (g.A.Asker.due c.step.new.self.asker) (g.A.Asker.next c.step.new.self.asker) (g.A.Asker.faults c.step.new.self.asker) c.step.new.self.subscriptions.items in
    let e = c.in_err-more.ensures in
    let x = c.in_err-more.field-0.0 in
    let same : Stays m t = record { due = e.asker.0; next = e.asker.1; faults = e.later; subscriptions = e.err } in
    passed_on c.from_residual.result (RunsInPart c.args.events s t) x c.from_residual.ensures.1
    (refused_at c.args.events c.running.yielded (into_iter_items c.running.event-iterator) (into_iter_items c.next.new.self) c.in-Some.event s m t
    c.running.sends.items x c.running.invariant.ran c.in-Some.ensures.steps.0 c.running.invariant.items same
    (λ is. e.repeated.0 (ap Err is)) (λ is. e.too_many.0 (ap Err is)) e.failed)

pub running-preserved : goal.running-preserved
running-preserved g c =
    let s : Standing = standing (g.A.Asker.due c.args.self.now.asker) (g.A.Asker.next c.args.self.now.asker) (g.A.Asker.faults c.args.self.now.asker) c.args.self.now.subscriptions.items in
    let m : Standing = standing (g.A.Asker.due c.running.self.asker) (g.A.Asker.next c.running.self.asker) (g.A.Asker.faults c.running.self.asker) c.running.self.subscriptions.items in
    let t : Standing = standing (g.A.Asker.due c.step.new.self.asker) (g.A.Asker.next c.step.new.self.asker) (g.A.Asker.faults c.step.new.self.asker) c.step.new.self.subscriptions.items in
    let e = c.in-Some.event in
    let said = c.in_ok-more.ensures in
    let taken : IsTaken e m.subscriptions =
    is_taken (is_repeated e m.subscriptions) (IsTooMany e m.subscriptions) (λ is. no_refusal c.in_ok-more.more refusal.Repeated (said.repeated.1 is))
    (λ is. no_refusal c.in_ok-more.more refusal.TooMany (said.too_many.1 is))
    in
    let P : List Sent → Type 0 = λ l. Runs (c.running.yielded ++ e ∷ []) s t l in
    record {
      ran =
          subst P (sym c.in_ok-append.ensures)
          (runs_more c.running.yielded e s m t c.running.sends.items c.in_ok-more.more c.running.invariant.ran (taken, said.ok, said.asker));
      items = items_more c.running.yielded (into_iter_items c.running.event-iterator) (into_iter_items c.next.new.self) c.args.events e c.in-Some.ensures.steps.0 c.running.invariant.items;
    }

pub returns-in_err-append-clause-refused : goal.returns-in_err-append-clause-refused
returns-in_err-append-clause-refused g c =
    let s : Standing = standing (g.A.Asker.due c.args.self.now.asker) (g.A.Asker.next c.args.self.now.asker) (g.A.Asker.faults c.args.self.now.asker) c.args.self.now.subscriptions.items in
    let m : Standing = standing (g.A.Asker.due c.running.self.asker) (g.A.Asker.next c.running.self.asker) (g.A.Asker.faults c.running.self.asker) c.running.self.subscriptions.items in
    let t : Standing = standing (g.A.Asker.due c.step.new.self.asker) (g.A.Asker.next c.step.new.self.asker) (g.A.Asker.faults c.step.new.self.asker) c.step.new.self.subscriptions.items in
    let said = c.in_ok-more.ensures in
    let taken : IsTaken c.in-Some.event m.subscriptions =
    is_taken (is_repeated c.in-Some.event m.subscriptions) (IsTooMany c.in-Some.event m.subscriptions)
    (λ is. no_refusal c.in_ok-more.more refusal.Repeated (said.repeated.1 is)) (λ is. no_refusal c.in_ok-more.more refusal.TooMany (said.too_many.1 is))
    in
    passed_on c.from_residual-in_err-append.result (RunsInPart c.args.events s t) refusal.Memory c.from_residual-in_err-append.ensures.1
    (lost_at c.args.events c.running.yielded (into_iter_items c.running.event-iterator) (into_iter_items c.next.new.self)
    c.in-Some.event s m t c.running.sends.items c.in_ok-more.more c.running.invariant.ran
    (taken, said.ok, said.asker) c.in-Some.ensures.steps.0 c.running.invariant.items)

pub returns-clause-plain : goal.returns-clause-plain
returns-clause-plain g c =
    let s : Standing = standing (g.A.Asker.due c.args.self.now.asker) (g.A.Asker.next c.args.self.now.asker) (g.A.Asker.faults c.args.self.now.asker) c.args.self.now.subscriptions.items in
    let t : Standing = standing (g.A.Asker.due c.running.self.asker) (g.A.Asker.next c.running.self.asker) (g.A.Asker.faults c.running.self.asker) c.running.self.subscriptions.items in
    let left = into_iter_items c.running.event-iterator in
    let none : left ≡ [] = nil_from_length left (omega (arith, c.running.event-iterator.rest.ok.0, c.in-None.ensures.steps.0)) in
    let all : c.running.yielded ≡ c.args.events = sym (append-nil c.running.yielded) ∙ (ap (λ (l : List Event). c.running.yielded ++ l) (sym none) ∙ c.running.invariant.items) in
    let P : List Event → Type 0 = λ l. Runs l s t c.running.sends.items in
    let Q : List Sent → Type 0 = λ l. Runs c.args.events s t l in
    runs_plain c.args.events s t c.from_vec.result (subst Q (sym c.from_vec.ensures) (subst P all c.running.invariant.ran))
