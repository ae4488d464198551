-- What an event does to live queries, and when it is refused.
use Rattle.std.specs.Prelude.{◌≡◌, ◌≤◌, ◌++◌, ◌∷◌, [], ◌==◌, ◌&&◌, nat_eq, not, ℕ, List, Bool, None, Result, Ok, Err, filter, count_by, false, ⊤}
use Rattle.std.specs.Cmp.Lexicographic.{pointwise}
use Rattle.std.specs.List.{list_any}
use Rattle.hq_model.specs.declared.session.Session.{Session}
use Rattle.hq_live.specs.Asking.{Due, Next, Moved, RoseWithin}
use Rattle.hq_live.specs.Answers.{IsAnswer, AreAnswers, kept, kept_all, news, news_all}
use Rattle.hq_live.specs.declared.event.Subscription.{Subscription}
use Rattle.hq_live.specs.declared.event.Event.{Event}
use Rattle.hq_live.specs.declared.event.Event.TheVariants as event
use Rattle.hq_live.specs.declared.event.Sent.{Sent}
use Rattle.hq_live.specs.declared.answer.Polled.{Polled}
use Rattle.hq_live.specs.declared.refusal.StepRefusal.{StepRefusal}
use Rattle.hq_live.specs.declared.refusal.StepRefusal.TheVariants as refusal

-- whether a subscription has this subscriber and this name
abbrev pub is_of : (who : ℕ) → (id : List ℕ) → Subscription → Bool
is_of who id s = (s.who == who) && pointwise nat_eq s.id id

-- whether a subscription has this subscriber
abbrev pub is_by : (who : ℕ) → Subscription → Bool
is_by who s = s.who == who

-- a subscription as it begins
abbrev pub begun : (who : ℕ) → (id : List ℕ) → Session → (body : List ℕ) → Subscription
begun who id session body = record { who = who; id = id; session = session; body = body; last = None }

-- an event that is not refused: the subscriptions after it, and what is sent
abbrev pub Steps : Due → (old new : ℕ) → Event → (before after : List Subscription) → List Sent → Type 0
Steps due old new (event.Subscribe who id session body) before after sends =
    let s = begun who id session body in
    (a : Polled) × IsAnswer due s old new a × (after ≡ before ++ kept s a ∷ []) × (sends ≡ news s a)
Steps due old new event.Tick before after sends =
    (answers : List Polled) × AreAnswers due old new before answers × (after ≡ kept_all before answers) × (sends ≡ news_all before answers)
Steps due old new event.Reload before after sends = (after ≡ before) × (sends ≡ [])
Steps due old new (event.Complete who id) before after sends = (after ≡ filter (λ s. not (is_of who id s)) before) × (sends ≡ [])
Steps due old new (event.Gone who) before after sends = (after ≡ filter (λ s. not (is_by who s)) before) × (sends ≡ [])

-- whether an event begins a subscription that is there
abbrev pub is_repeated : Event → List Subscription → Bool
is_repeated (event.Subscribe who id session body) before = list_any (is_of who id) before
is_repeated event.Tick before = false
is_repeated event.Reload before = false
is_repeated (event.Complete who id) before = false
is_repeated (event.Gone who) before = false

-- an event begins a subscription for one who has 100
abbrev pub IsTooMany : Event → List Subscription → Type 0
IsTooMany (event.Subscribe who id session body) before = 100 ≤ count_by (is_by who) before
IsTooMany event.Tick before = ⊥
IsTooMany event.Reload before = ⊥
IsTooMany (event.Complete who id) before = ⊥
IsTooMany (event.Gone who) before = ⊥

-- why a reload is refused: for want of memory, or because the count rose
abbrev pub IsReloadRefusal : (old new : ℕ) → StepRefusal → Type 0
IsReloadRefusal old new (refusal.ReloadFailed before after) = RoseWithin old new before after
IsReloadRefusal old new refusal.Memory = ⊤
IsReloadRefusal old new refusal.Repeated = ⊥
IsReloadRefusal old new refusal.TooMany = ⊥

-- which refusals an event may have
abbrev pub IsRefusal : Event → (old new : ℕ) → StepRefusal → Type 0
IsRefusal (event.Subscribe who id session body) old new (refusal.ReloadFailed before after) = ⊥
IsRefusal (event.Subscribe who id session body) old new refusal.Repeated = ⊤
IsRefusal (event.Subscribe who id session body) old new refusal.TooMany = ⊤
IsRefusal (event.Subscribe who id session body) old new refusal.Memory = ⊤
IsRefusal event.Tick old new (refusal.ReloadFailed before after) = ⊥
IsRefusal event.Tick old new refusal.Repeated = ⊥
IsRefusal event.Tick old new refusal.TooMany = ⊥
IsRefusal event.Tick old new refusal.Memory = ⊤
IsRefusal event.Reload old new (refusal.ReloadFailed before after) = RoseWithin old new before after
IsRefusal event.Reload old new refusal.Repeated = ⊥
IsRefusal event.Reload old new refusal.TooMany = ⊥
IsRefusal event.Reload old new refusal.Memory = ⊤
IsRefusal (event.Complete who id) old new e = ⊥
IsRefusal (event.Gone who) old new e = ⊥

-- what becomes of the databases at an event that is not refused: a reload takes the next one
abbrev pub Moves : Event → Due → Due → Next → Next → Type 0
Moves (event.Subscribe who id session body) due due' next next' = (due' ≡ due) × (next' ≡ next)
Moves event.Tick due due' next next' = (due' ≡ due) × (next' ≡ next)
Moves event.Reload due due' next next' = Moved due due' next next'
Moves (event.Complete who id) due due' next next' = (due' ≡ due) × (next' ≡ next)
Moves (event.Gone who) due due' next next' = (due' ≡ due) × (next' ≡ next)

-- what becomes of them at an event: where it is refused they stay
abbrev pub LeavesAsker : {T E : Type 0} → Event → Due → Due → Next → Next → Result T E → Type 0
LeavesAsker e due due' next next' (Ok _) = Moves e due due' next next'
LeavesAsker e due due' next next' (Err _) = (due' ≡ due) × (next' ≡ next)
