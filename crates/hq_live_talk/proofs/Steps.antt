-- What a step of the live queries says, by its result.
use Rattle.std.proofs.Common.{◌≡◌, ◌≤◌, ◌↔◌, ℕ, List, Bool, true, false, Result, Ok, Err, IfOk, OnErr, IsErrOf, refl}
use Rattle.hq_live.specs.Steps.{Steps, LeavesAsker, IsTooMany, is_repeated}
use Rattle.hq_live.specs.Runs.{Standing, Passes, Stays}
use Rattle.hq_live.specs.declared.event.Event.{Event}
use Rattle.hq_live.specs.declared.event.Sent.{Sent}
use Rattle.hq_live.specs.declared.refusal.StepRefusal.{StepRefusal}
use Rattle.hq_live.specs.declared.refusal.StepRefusal.TheVariants.{Repeated, TooMany}
use Rattle.hq_live_talk.specs.Talks.{IsOwn, IsOwnEvent}
use Rattle.hq_live_talk.proofs.Own.{own_passes, own_stays}

no_refusal : (v : List Sent) (x : StepRefusal) → ¬ (Ok v ≡ Err x)
no_refusal v x h = cc h

-- an event that is neither refused for being there nor for being too many
is_taken : (b : Bool) (T : Type 0) → ¬ (b ≡ true) → ¬ ((b ≡ false) × T) → (b ≡ false) × ¬ T
is_taken true T there many = absurd (there refl)
is_taken false T there many = (refl, λ x. many (refl, x))

-- a step that is not refused
pub passes_by : (e : Event) (s t : Standing) (r : Result (List Sent) StepRefusal)
    → IfOk r (λ sends. Steps s.due s.faults t.faults e s.subscriptions t.subscriptions sends)
    → (IsErrOf r Repeated ↔ (is_repeated e s.subscriptions ≡ true))
    → (IsErrOf r TooMany ↔ ((is_repeated e s.subscriptions ≡ false) × IsTooMany e s.subscriptions))
    → LeavesAsker e s.due t.due s.next t.next r → IfOk r (λ sends. Passes e s t sends)
passes_by e s t (Ok sends) steps there many asker =
    (is_taken (is_repeated e s.subscriptions) (IsTooMany e s.subscriptions) (λ is. no_refusal sends Repeated (there.1 is)) (λ is. no_refusal sends TooMany (many.1 is)), steps, asker)
passes_by e s t (Err x) steps there many asker = tt

-- one that is refused
pub stays_by : (e : Event) (s t : Standing) (r : Result (List Sent) StepRefusal) → OnErr r (t.subscriptions ≡ s.subscriptions)
    → LeavesAsker e s.due t.due s.next t.next r → s.faults ≤ t.faults → OnErr r (Stays s t)
stays_by e s t (Ok sends) same asker later = tt
stays_by e s t (Err x) same asker later = record { due = asker.0; next = asker.1; faults = later; subscriptions = same }

-- in either case his own event leaves no subscription of another one
pub own_by : (who : ℕ) (e : Event) (s t : Standing) (r : Result (List Sent) StepRefusal) → IsOwnEvent who e → IfOk r (λ sends. Passes e s t sends)
    → OnErr r (t.subscriptions ≡ s.subscriptions) → IsOwn who s.subscriptions → IsOwn who t.subscriptions
own_by who e s t (Ok sends) his passes same own = own_passes who e s t sends his passes own
own_by who e s t (Err x) his passes same own = own_stays who s.subscriptions t.subscriptions same own
