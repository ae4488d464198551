-- The rows of the table behind which something is sent, by equal names and lists.
use Rattle.std.proofs.Common.{◌≡◌, ◌++◌, ◌∷◌, [], ℕ, List, Bool, Result, Ok, Err, IfOk, refl, subst, sym, ap, ◌∙◌, Option, None, Some}
use Rattle.std.proofs.Common.{inl}
use Rattle.hq_base.specs.declared.memory.Memory.{Memory}
use Rattle.hq_model.specs.declared.session.Session.{Session}
use Rattle.hq_live.specs.Runs.{Standing, Passes}
use Rattle.hq_live.specs.declared.event.Event.{Event}
use Rattle.hq_live.specs.declared.event.Event.TheVariants as event
use Rattle.hq_live.specs.declared.event.Sent.{Sent}
use Rattle.hq_live_talk.specs.Table.{Talk, Tells, Begins, Subscribes, Pings, Reloads, once_with, told_texts, talk_of}
use Rattle.hq_live_talk.specs.Texts.{error_text, pong_text, too_many_errors}
use Rattle.hq_live_talk.specs.declared.answered.Answered.{Answered}

-- a subscription that has begun
pub begins_sent : (who : ℕ) (id name : List ℕ) (is_lasting : Bool) (once kept : List (List ℕ)) (e : Event) (s t : Talk) (mid : Standing) (sends told : List Sent) (first texts : List (List ℕ))
    → name ≡ id → kept ≡ once_with is_lasting name once → told ≡ sends → Passes e s.live mid sends → Tells who s.session kept mid told t → first ≡ [] → texts ≡ first ++ told_texts kept told
    → Begins who id (once_with is_lasting id once) e s t texts None
begins_sent who id name is_lasting once kept e s t mid sends told first texts n k w passes tells f says =
    let q : kept ≡ once_with is_lasting id once = k ∙ ap (λ m. once_with is_lasting m once) n in
    let one : Tells who s.session kept mid sends t = subst (λ (l : List Sent). Tells who s.session kept mid l t) w tells in
    let two : Tells who s.session (once_with is_lasting id once) mid sends t = subst (λ (o : List (List ℕ)). Tells who s.session o mid sends t) q one in
    let all : texts ≡ told_texts (once_with is_lasting id once) sends = says ∙ (ap (λ l. l ++ told_texts kept told) f ∙ (ap (λ l. told_texts kept l) w ∙ ap (λ o. told_texts o sends) q)) in
    inl (mid, sends, passes, two, all, refl)

-- the text that there are too many
pub too_many_text : (id name text : List ℕ) (texts : List (List ℕ)) → name ≡ id → text ≡ error_text name too_many_errors → texts ≡ text ∷ [] → texts ≡ error_text id too_many_errors ∷ []
too_many_text id name text texts n h k = k ∙ ap (λ x. x ∷ []) (h ∙ ap (λ m. error_text m too_many_errors) n)

-- what is subscribed to by the session of the talk
pub subscribes_by : (who : ℕ) (id body : List ℕ) (is_lasting : Bool) (o : Option Session) (session copy : Session) (once kept : List (List ℕ)) (live live' : Standing) (r : Result Answered Memory)
    → o ≡ Some session → copy ≡ session
    → IfOk r (λ a. (x : Option Session) → Begins who id (once_with is_lasting id once) (event.Subscribe who id copy body) (talk_of x once live) (talk_of x kept live') a.texts.items a.code)
    → IfOk r (λ a. Subscribes who id body is_lasting o (talk_of o once live) (talk_of o kept live') a.texts.items a.code)
subscribes_by who id body is_lasting o session copy once kept live live' (Err x) e k h = tt
subscribes_by who id body is_lasting o session copy once kept live live' (Ok a) e k h =
    let P : Option Session → Type 0 = λ x. Subscribes who id body is_lasting x (talk_of x once live) (talk_of x kept live') a.texts.items a.code in
    let Q : Session → Type 0 =
    λ x. Begins who id (once_with is_lasting id once) (event.Subscribe who id x body) (talk_of (Some session) once live)
    (talk_of (Some session) kept live') a.texts.items a.code in
    let q : P (Some session) = subst Q k (h (Some session)) in
    subst P (sym e) q

-- a tick behind a reload
pub pings_sent : (who : ℕ) (o : Option Session) (session : Session) (s t : Talk) (new mid : Standing) (sends told : List Sent) (pong : List ℕ) (first texts : List (List ℕ))
    → o ≡ Some session → told ≡ sends → Reloads s.live new → Passes event.Tick new mid sends → Tells who s.session s.once mid told t
    → pong ≡ pong_text → first ≡ pong ∷ [] → texts ≡ first ++ told_texts s.once told → Pings who o s t texts None
pings_sent who o session s t new mid sends told pong first texts e w reloads passes tells p f says =
    let P : Option Session → Type 0 = λ x. Pings who x s t texts None in
    let one : Tells who s.session s.once mid sends t = subst (λ (l : List Sent). Tells who s.session s.once mid l t) w tells in
    let all : texts ≡ pong_text ∷ told_texts s.once sends = says ∙ (ap (λ l. l ++ told_texts s.once told) (f ∙ ap (λ x. x ∷ []) p) ∙ ap (λ l. pong_text ∷ told_texts s.once l) w) in
    let q : P (Some session) = (new, mid, sends, reloads, passes, one, all, refl) in
    subst P (sym e) q
