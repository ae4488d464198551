-- Events in order, one more at a time.
use Rattle.std.proofs.Common.{◌≡◌, ◌++◌, ◌∷◌, [], ℕ, List, Bool, true, false, Result, Ok, Err, IfErr, IsErrAnd, refl, sym, ap, ◌∙◌, subst, append-nil, arith}
use Rattle.std.proofs.lemmas.List.{append_assoc}
use Rattle.hq_live.specs.Steps.{IsRefusal, IsTooMany, is_repeated}
use Rattle.hq_live.specs.Runs.{Standing, Passes, Runs, Stays, RunsInPart, IsRefusedFor}
use Rattle.hq_live.specs.declared.event.Event.{Event}
use Rattle.hq_live.specs.declared.event.Sent.{Sent}
use Rattle.hq_live.specs.declared.refusal.StepRefusal.{StepRefusal}
use Rattle.hq_live.specs.declared.refusal.StepRefusal.TheVariants as refusal

-- one more event behind others
pub runs_more : (events : List Event) (e : Event) (s m t : Standing) (sends more : List Sent)
    → Runs events s m sends → Passes e m t more → Runs (events ++ e ∷ []) s t (sends ++ more)
runs_more [] e s m t sends more h one =
    let first : Passes e s t more = rw (← h.0) one in
    (t, more, [], first, (refl, refl), ap (λ l. l ++ more) h.1 ∙ sym (append-nil more))
runs_more (v ∷ events) e s m t sends more h one =
    (h.0, h.1, h.2 ++ more, h.3, runs_more events e h.0 m t h.2 more h.4 one, ap (λ l. l ++ more) h.5 ∙ append_assoc h.1 h.2 more)

-- one more event of those that are left
pub items_more : (yielded left rest all : List Event) (e : Event) → left ≡ e ∷ rest → yielded ++ left ≡ all → (yielded ++ e ∷ []) ++ rest ≡ all
items_more yielded left rest all e h k = append_assoc yielded (e ∷ []) rest ∙ (ap (λ l. yielded ++ l) (sym h) ∙ k)

-- where nothing has changed
stays_same : (s : Standing) → Stays s s
stays_same s = record { due = refl; next = refl; faults = omega arith; subscriptions = refl }

-- an event that is neither refused for being there nor for being too many
pub is_taken : (b : Bool) (T : Type 0) → ¬ (b ≡ true) → ¬ ((b ≡ false) × T) → (b ≡ false) × ¬ T
is_taken true T there many = absurd (there refl)
is_taken false T there many = (refl, λ x. many (refl, x))

-- why an event is refused, by what its step says
refused_for : (x : StepRefusal) (e : Event) (rest : List Event) (m : Standing) (faults : ℕ)
    → (x ≡ refusal.Repeated → is_repeated e m.subscriptions ≡ true)
    → (x ≡ refusal.TooMany → (is_repeated e m.subscriptions ≡ false) × IsTooMany e m.subscriptions)
    → IsRefusal e m.faults faults x → IsRefusedFor x (e ∷ rest) m faults
refused_for refusal.Memory e rest m faults repeated many h = tt
refused_for refusal.Repeated e rest m faults repeated many h = repeated refl
refused_for refusal.TooMany e rest m faults repeated many h = many refl
refused_for (refusal.ReloadFailed before after) e rest m faults repeated many h = h

-- an event was refused
pub refused_at : (events yielded left rest : List Event) (e : Event) (s m t : Standing) (sends : List Sent) (x : StepRefusal)
    → Runs yielded s m sends → left ≡ e ∷ rest → yielded ++ left ≡ events → Stays m t
    → (x ≡ refusal.Repeated → is_repeated e m.subscriptions ≡ true)
    → (x ≡ refusal.TooMany → (is_repeated e m.subscriptions ≡ false) × IsTooMany e m.subscriptions)
    → IsRefusal e m.faults t.faults x → RunsInPart events s t x
refused_at events yielded left rest e s m t sends x ran next items stays repeated many h =
    (yielded, e ∷ rest, m, sends, sym (ap (λ l. yielded ++ l) (sym next) ∙ items), ran, stays, refused_for x e rest m t.faults repeated many h)

-- memory was wanted for what an event sent
pub lost_at : (events yielded left rest : List Event) (e : Event) (s m t : Standing) (sends more : List Sent)
    → Runs yielded s m sends → Passes e m t more → left ≡ e ∷ rest → yielded ++ left ≡ events → RunsInPart events s t refusal.Memory
lost_at events yielded left rest e s m t sends more ran one next items =
    (yielded ++ e ∷ [], rest, t, sends ++ more, sym (items_more yielded left rest events e next items), runs_more yielded e s m t sends more ran one, stays_same t, tt)

-- a refusal that is passed on
pub passed_on : {T : Type 0} (r : Result T StepRefusal) (P : StepRefusal → Type 0) (x : StepRefusal) → IsErrAnd r (λ y. y ≡ x) → P x → IfErr r P
passed_on (Ok v) P x is p = absurd is
passed_on (Err y) P x is p = subst P (sym is) p

-- no refusal
pub no_refusal : {T : Type 0} (v : T) (x : StepRefusal) → ¬ (Ok v ≡ Err x)
no_refusal v x h = cc h
