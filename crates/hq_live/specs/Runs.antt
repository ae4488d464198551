-- Events in order, none of which is refused: from where live queries stand to where they stand then, and what is sent.
use Rattle.std.specs.Prelude.{◌≡◌, ◌≤◌, ◌++◌, ◌∷◌, [], ℕ, List, true, false, ⊤}
use Rattle.hq_live.specs.Asking.{Due, Next}
use Rattle.hq_live.specs.Steps.{Steps, Moves, IsRefusal, IsTooMany, is_repeated}
use Rattle.hq_live.specs.LiveRun.{Moment, live_run}
use Rattle.hq_live.specs.declared.event.Subscription.{Subscription}
use Rattle.hq_live.specs.declared.event.Event.{Event}
use Rattle.hq_live.specs.declared.event.Sent.{Sent}
use Rattle.hq_live.specs.declared.event.What.{What}
use Rattle.hq_live.specs.declared.event.What.TheVariants as what
use Rattle.hq_live.specs.declared.refusal.StepRefusal.{StepRefusal}
use Rattle.hq_live.specs.declared.refusal.StepRefusal.TheVariants as refusal

-- the database that is present, those that are next, the count of faults and the subscriptions
pub record Standing : Type 0 where
  pub due : Due
  pub next : Next
  pub faults : ℕ
  pub subscriptions : List Subscription

abbrev pub standing : Due → Next → (faults : ℕ) → List Subscription → Standing
standing due next faults subs = record { due = due; next = next; faults = faults; subscriptions = subs }

-- an event begins no subscription that is there, and none for one who has 100
abbrev pub IsTaken : Event → List Subscription → Type 0
IsTaken e subs = (is_repeated e subs ≡ false) × ¬ IsTooMany e subs

-- an event that is not refused
abbrev pub Passes : Event → Standing → Standing → List Sent → Type 0
Passes e s t sends =
    IsTaken e s.subscriptions × Steps s.due s.faults t.faults e s.subscriptions t.subscriptions sends × Moves e s.due t.due s.next t.next

-- events in order, none of which is refused
abbrev pub Runs : List Event → Standing → Standing → List Sent → Type 0
Runs [] s t sends = (t ≡ s) × (sends ≡ [])
Runs (e ∷ events) s t sends =
    (mid : Standing) × (first : List Sent) × (rest : List Sent) × Passes e s mid first × Runs events mid t rest × (sends ≡ first ++ rest)

-- where an event is refused: all stays, but that the count of faults may have risen
pub record Stays (s t : Standing) : Type 0 where
  pub due : t.due ≡ s.due
  pub next : t.next ≡ s.next
  pub faults : s.faults ≤ t.faults
  pub subscriptions : t.subscriptions ≡ s.subscriptions

-- why the first of these events is refused; memory may be wanted at any time
abbrev pub IsRefusedFor : StepRefusal → List Event → Standing → (faults : ℕ) → Type 0
IsRefusedFor refusal.Memory events s faults = ⊤
IsRefusedFor refusal.Repeated [] s faults = ⊥
IsRefusedFor refusal.Repeated (e ∷ events) s faults = is_repeated e s.subscriptions ≡ true
IsRefusedFor refusal.TooMany [] s faults = ⊥
IsRefusedFor refusal.TooMany (e ∷ events) s faults = (is_repeated e s.subscriptions ≡ false) × IsTooMany e s.subscriptions
IsRefusedFor (refusal.ReloadFailed before after) [] s faults = ⊥
IsRefusedFor (refusal.ReloadFailed before after) (e ∷ events) s faults = IsRefusal e s.faults faults (refusal.ReloadFailed before after)

-- events of which the first ones were taken, and then one was refused, or memory was wanted for what they sent
abbrev pub RunsInPart : List Event → Standing → Standing → StepRefusal → Type 0
RunsInPart events s t e =
    (taken : List Event) × (rest : List Event) × (mid : Standing) × (lost : List Sent)
    × (events ≡ taken ++ rest) × Runs taken s mid lost × Stays mid t × IsRefusedFor e rest mid t.faults

-- nothing that is sent is a miss
abbrev pub IsReply : What → Type 0
IsReply (what.Reply reply) = ⊤
IsReply (what.Missed before after) = ⊥

abbrev pub AreReplies : List Sent → Type 0
AreReplies [] = ⊤
AreReplies (x ∷ sends) = IsReply x.what × AreReplies sends

-- each event with the database that is present at it, from these present and next databases on
abbrev pub AreMoments : List Event → Due → Next → List Moment → Type 0
AreMoments [] due next moments = moments ≡ []
AreMoments (e ∷ events) due next [] = ⊥
AreMoments (e ∷ events) due next (m ∷ moments) =
    (m ≡ record { event = e; due = due }) × ((due' : Due) × (next' : Next) × Moves e due due' next next' × AreMoments events due' next' moments)

-- what is sent is the live run over the databases that are present
abbrev pub IsLiveRun : List Event → Standing → List Sent → Type 0
IsLiveRun events s sends = (moments : List Moment) × AreMoments events s.due s.next moments × (sends ≡ live_run moments s.subscriptions)
