-- What asking for subscriptions gives, what they are sent for it, and what becomes of them.
use Rattle.std.specs.Prelude.{◌≡◌, ◌≢◌, ◌≤◌, ◌++◌, ◌∷◌, [], ℕ, List, Some}
use Rattle.hq_live.specs.Asking.{Due, RoseWithin}
use Rattle.hq_live.specs.declared.event.Subscription.{Subscription}
use Rattle.hq_live.specs.declared.event.Sent.{Sent}
use Rattle.hq_live.specs.declared.event.What.TheVariants as what
use Rattle.hq_live.specs.declared.answer.Polled.{Polled}
use Rattle.hq_live.specs.declared.answer.Polled.TheVariants as answer

-- the reply that is due to a subscription
abbrev pub reply_to : Due → Subscription → List ℕ
reply_to due s = due s.session s.body

-- what asking for one subscription gives, while the count of faults goes from `old` to `new`: nothing new, a reply that differs
-- from the last one, or a miss
abbrev pub IsAnswer : Due → Subscription → (old new : ℕ) → Polled → Type 0
IsAnswer due s old new answer.Same = (s.last ≡ Some (reply_to due s)) × (old ≤ new)
IsAnswer due s old new (answer.News reply) = (reply ≡ reply_to due s) × (s.last ≢ Some (reply_to due s)) × (old ≤ new)
IsAnswer due s old new (answer.Missed before after) = RoseWithin old new before after

-- what asking for all of them in order gives, each miss with a rise of its own
abbrev pub AreAnswers : Due → (old new : ℕ) → List Subscription → List Polled → Type 0
AreAnswers due old new [] [] = old ≤ new
AreAnswers due old new [] (a ∷ answers) = ⊥
AreAnswers due old new (s ∷ rest) [] = ⊥
AreAnswers due old new (s ∷ rest) (a ∷ answers) = (mid : ℕ) × IsAnswer due s old mid a × AreAnswers due mid new rest answers

-- a subscription after its answer: a reply that it was sent is kept
abbrev pub kept : Subscription → Polled → Subscription
kept s answer.Same = s
kept s (answer.News reply) = record s { last = Some reply }
kept s (answer.Missed before after) = s

abbrev pub kept_all : List Subscription → List Polled → List Subscription
kept_all subs [] = subs
kept_all [] (a ∷ answers) = []
kept_all (s ∷ rest) (a ∷ answers) = kept s a ∷ kept_all rest answers

-- what a subscription is sent
abbrev pub news : Subscription → Polled → List Sent
news s answer.Same = []
news s (answer.News reply) = record { who = s.who; id = s.id; what = what.Reply reply } ∷ []
news s (answer.Missed before after) = record { who = s.who; id = s.id; what = what.Missed before after } ∷ []

abbrev pub news_all : List Subscription → List Polled → List Sent
news_all [] answers = []
news_all (s ∷ rest) [] = []
news_all (s ∷ rest) (a ∷ answers) = news s a ++ news_all rest answers
