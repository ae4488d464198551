-- Messages that are left and what was sent, where they are told.
use Rattle.std.specs.Prelude.{◌≡◌, ◌++◌, ◌∷◌, [], ℕ, List, slice_get, IfSome, IsSomeAnd, MatchOption, Option, None, Some, Result, Ok, Err}
use Rattle.hq_messages.specs.declared.messages.Message.{Message}
use Rattle.hq_messages.specs.declared.messages.Message.TheVariants as waiting
use Rattle.hq_messages.specs.declared.messages.In.{In}
use Rattle.hq_messages.specs.declared.messages.In.TheVariants as came_in
use Rattle.hq_messages.specs.declared.messages.Out.{Out}
use Rattle.hq_messages.specs.declared.refusal.LinkRefusal.{LinkRefusal}

-- a message as it comes in
abbrev pub came : Message → In
came (waiting.Text text) = came_in.Text text
came waiting.Idle = came_in.Idle
came waiting.Other = came_in.Other

-- what comes in, and what is left behind it: the first message, or the end where there is none
abbrev pub Came : List Message → Option (List Message) → In → Type 0
Came [] now m = (m ≡ came_in.Ended) × (now ≡ Some [])
Came (next ∷ rest) now m = (m ≡ came next) × (now ≡ Some rest)

-- what receiving gives, where the messages that are left are told
abbrev pub Receives : Option (List Message) → Option (List Message) → Result In LinkRefusal → Type 0
Receives None now result = now ≡ None
Receives (Some left) now (Ok m) = Came left now m
Receives (Some left) now (Err e) = now ≡ Some left

-- these were added to what was sent
abbrev pub Sends : Option (List Out) → Option (List Out) → List Out → Type 0
Sends None now new = now ≡ None
Sends (Some before) now new = now ≡ Some (before ++ new)

-- one was added to what was sent
abbrev pub Adds : Option (List Out) → Option (List Out) → Out → Type 0
Adds old new out = Sends old new (out ∷ [])

-- after so many accepted talks this is the next one: the told talk at that place, or one without messages past their end
abbrev pub IsNextTalk : {L : Type 0} → (left : L → Option (List Message)) → Option (List L) → (accepted : ℕ) → Option L → Type 0
IsNextTalk left talks accepted present =
    IsSomeAnd present (λ talk. IfSome talks (λ told. MatchOption (slice_get told accepted) (left talk ≡ Some []) (λ next. talk ≡ next)))
