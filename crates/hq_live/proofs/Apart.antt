-- What a subscriber is sent is the run without the events of others.
use Rattle.std.proofs.Common.{◌≡◌, ◌++◌, ◌∷◌, [], ◌==◌, ◌&&◌, not, cond, ℕ, List, Bool, true, false, filter, map, flat_map, append-nil, refl, sym, ap, ◌∙◌, arith}
use Rattle.std.proofs.lemmas.List.Elements.{filter-append}
use Rattle.hq_live.specs.Asking.{Due}
use Rattle.hq_live.specs.Answers.{reply_to}
use Rattle.hq_live.specs.Steps.{is_of, is_by, begun}
use Rattle.hq_live.specs.LiveRun.{Moment, one_if, said, renewed, sent_at, left_by, live_run, concerns, is_to, is_last}
use Rattle.hq_live.proofs.Filters.{filter_swap, filter_skip}
use Rattle.hq_live.specs.declared.event.Subscription.{Subscription}
use Rattle.hq_live.specs.declared.event.Event.{Event}
use Rattle.hq_live.specs.declared.event.Event.TheVariants as event
use Rattle.hq_live.specs.declared.event.Sent.{Sent}

-- a choice of equals
cond_same : (b : Bool) (xs : List Sent) → xs ≡ cond b xs xs
cond_same true xs = refl
cond_same false xs = refl

-- one thing sent, as far as it is sent to him
told_to : (w : ℕ) (b : Bool) (x : Sent) → filter (is_to w) (one_if b x) ≡ cond (is_to w x) (one_if b x) []
told_to w true x = refl
told_to w false x = cond_same (is_to w x) []

-- what is sent to one more subscription or not
flat_cons : (f : Subscription → List Sent) (b : Bool) (s : Subscription) (xs : List Subscription) → flat_map f (cond b (s ∷ xs) xs) ≡ cond b (f s) [] ++ flat_map f xs
flat_cons f true s xs = refl
flat_cons f false s xs = refl

-- what a tick sends him goes to his subscriptions
said_own : (w : ℕ) (due : Due) (subs : List Subscription) → filter (is_to w) (flat_map (said due) subs) ≡ flat_map (said due) (filter (is_by w) subs)
said_own w due [] = refl
said_own w due (s ∷ subs) =
    filter-append (is_to w) (said due s) (flat_map (said due) subs)
    ∙ (ap (λ l. l ++ filter (is_to w) (flat_map (said due) subs)) (told_to w (not (is_last s.last (reply_to due s))) _)
    ∙ (ap (λ l. cond (s.who == w) (said due s) [] ++ l) (said_own w due subs) ∙ sym (flat_cons (said due) (is_by w s) s (filter (is_by w) subs))))

-- one more subscription or not, each changed
map_cons : (f : Subscription → Subscription) (b : Bool) (s : Subscription) (xs : List Subscription) → map f (cond b (s ∷ xs) xs) ≡ cond b (f s ∷ map f xs) (map f xs)
map_cons f true s xs = refl
map_cons f false s xs = refl

-- his subscriptions after a tick
renewed_own : (w : ℕ) (due : Due) (subs : List Subscription) → filter (is_by w) (map (renewed due) subs) ≡ map (renewed due) (filter (is_by w) subs)
renewed_own w due [] = refl
renewed_own w due (s ∷ subs) =
    ap (λ l. cond (s.who == w) (renewed due s ∷ l) l) (renewed_own w due subs) ∙ sym (map_cons (renewed due) (is_by w s) s (filter (is_by w) subs))

-- his subscriptions are not another's
no-one : (a w : ℕ) → (a == w) ≡ false → (s : Subscription) → is_by w s ≡ true → (s.who == a) ≡ false
no-one a w other s own = grind (arith, other, own)

-- what is not so
not-false : (b : Bool) → b ≡ false → not b ≡ true
not-false true h = cc h
not-false false h = refl

-- nor are they ended where another's are
no-both : (a w : ℕ) → (a == w) ≡ false → (s : Subscription) → is_by w s ≡ true → not (is_by a s) ≡ true
no-both a w other s own = not-false (s.who == a) (no-one a w other s own)

-- nor is one of them
no-first : (b c : Bool) → b ≡ false → not (b && c) ≡ true
no-first true c h = cc h
no-first false c h = refl

-- nor is one of them ended where one of another's is
others-of : (a w : ℕ) (id : List ℕ) → (a == w) ≡ false → (s : Subscription) → is_by w s ≡ true → not (is_of a id s) ≡ true
others-of a w id other s own = no-first (s.who == a) _ (no-one a w other s own)

-- an event of another leaves his subscriptions as they were
own_stay : (w : ℕ) (e : Event) (due : Due) (subs : List Subscription) → concerns w e ≡ false → filter (is_by w) (left_by e due subs) ≡ filter (is_by w) subs
own_stay w (event.Subscribe who id session body) due subs h =
    filter-append (is_by w) subs (renewed due (begun who id session body) ∷ [])
    ∙ (ap (λ b. filter (is_by w) subs ++ cond b (renewed due (begun who id session body) ∷ []) []) h ∙ append-nil (filter (is_by w) subs))
own_stay w event.Tick due subs h = cc h
own_stay w event.Reload due subs h = cc h
own_stay w (event.Complete who id) due subs h = filter_skip (is_by w) (λ s. not (is_of who id s)) subs (others-of who w id h)
own_stay w (event.Gone who) due subs h = filter_skip (is_by w) (λ s. not (is_by who s)) subs (no-both who w h)

-- and sends him nothing
sent_none : (w : ℕ) (e : Event) (due : Due) (subs : List Subscription) → concerns w e ≡ false → filter (is_to w) (sent_at e due subs) ≡ []
sent_none w (event.Subscribe who id session body) due subs h = told_to w true _ ∙ ap (λ b. cond b (said due (begun who id session body)) []) h
sent_none w event.Tick due subs h = cc h
sent_none w event.Reload due subs h = cc h
sent_none w (event.Complete who id) due subs h = refl
sent_none w (event.Gone who) due subs h = refl

-- his own events, ticks and reloads do to his subscriptions what they do to them alone
own_left : (w : ℕ) (e : Event) (due : Due) (subs : List Subscription) → concerns w e ≡ true → filter (is_by w) (left_by e due subs) ≡ left_by e due (filter (is_by w) subs)
own_left w (event.Subscribe who id session body) due subs h =
    filter-append (is_by w) subs (renewed due (begun who id session body) ∷ [])
    ∙ ap (λ b. filter (is_by w) subs ++ cond b (renewed due (begun who id session body) ∷ []) []) h
own_left w event.Tick due subs h = renewed_own w due subs
own_left w event.Reload due subs h = refl
own_left w (event.Complete who id) due subs h = filter_swap (is_by w) (λ s. not (is_of who id s)) subs
own_left w (event.Gone who) due subs h = filter_swap (is_by w) (λ s. not (is_by who s)) subs

-- and send him what they send to them alone
sent_own : (w : ℕ) (e : Event) (due : Due) (subs : List Subscription) → concerns w e ≡ true → filter (is_to w) (sent_at e due subs) ≡ sent_at e due (filter (is_by w) subs)
sent_own w (event.Subscribe who id session body) due subs h = told_to w true _ ∙ ap (λ b. cond b (said due (begun who id session body)) []) h
sent_own w event.Tick due subs h = said_own w due subs
sent_own w event.Reload due subs h = refl
sent_own w (event.Complete who id) due subs h = refl
sent_own w (event.Gone who) due subs h = refl

-- a run with one more moment or not
run_cond : (b : Bool) (m : Moment) (ms : List Moment) (subs : List Subscription)
    → live_run (cond b (m ∷ ms) ms) subs ≡ cond b (sent_at m.event m.due subs ++ live_run ms (left_by m.event m.due subs)) (live_run ms subs)
run_cond true m ms subs = refl
run_cond false m ms subs = refl

-- one moment of a run, as far as he is told of it
own_step : (w : ℕ) (b : Bool) (m : Moment) (ms : List Moment) (subs : List Subscription) → concerns w m.event ≡ b
    → filter (is_to w) (sent_at m.event m.due subs) ++ live_run ms (filter (is_by w) (left_by m.event m.due subs))
    ≡ live_run (cond b (m ∷ ms) ms) (filter (is_by w) subs)
own_step w true m ms subs h =
    ap (λ l. l ++ live_run ms (filter (is_by w) (left_by m.event m.due subs))) (sent_own w m.event m.due subs h)
    ∙ ap (λ l. sent_at m.event m.due (filter (is_by w) subs) ++ live_run ms l) (own_left w m.event m.due subs h)
own_step w false m ms subs h =
    ap (λ l. l ++ live_run ms (filter (is_by w) (left_by m.event m.due subs))) (sent_none w m.event m.due subs h)
    ∙ ap (λ l. live_run ms l) (own_stay w m.event m.due subs h)

-- what a subscriber is sent is the run without the events of others
pub apart : (w : ℕ) (moments : List Moment) (subs : List Subscription)
    → filter (is_to w) (live_run moments subs) ≡ live_run (filter (λ m. concerns w m.event) moments) (filter (is_by w) subs)
apart w [] subs = refl
apart w (m ∷ moments) subs =
    filter-append (is_to w) (sent_at m.event m.due subs) (live_run moments (left_by m.event m.due subs))
    ∙ (ap (λ l. filter (is_to w) (sent_at m.event m.due subs) ++ l) (apart w moments (left_by m.event m.due subs))
    ∙ own_step w (concerns w m.event) m (filter (λ n. concerns w n.event) moments) subs refl)
