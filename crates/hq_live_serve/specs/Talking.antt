-- Talks with the peers of a hall, one after the other.
use Rattle.std.specs.Prelude.{◌≡◌, ℕ, List, [], ◌∷◌, Option, Some}
use Rattle.hq_io.specs.Causes.{Rose, one_more}
use Rattle.hq_io.specs.Links.{with_present}
use Rattle.hq_session.specs.declared.header.Header.{Header}
use Rattle.hq_session.specs.declared.hook.HookAnswer.{HookAnswer}
use Rattle.hq_messages.specs.Messages.{IsNextTalk}
use Rattle.hq_messages.specs.declared.messages.Message.{Message}
use Rattle.hq_messages.specs.declared.messages.Out.{Out}
use Rattle.hq_live.specs.Runs.{Standing}
use Rattle.hq_live_talk.specs.Talks.{Talks, link_of}
use Rattle.hq_live_talk.specs.declared.end.TalkEnd.{TalkEnd}
use Rattle.hq_live_talk.specs.declared.end.TalkEnd.TheVariants as end

-- what a link tells: the messages that are left, what was sent, and how often it has failed
pub record ToldLink (L : Type 0) : Type 0 where
  pub left : L → Option (List Message)
  pub sent : L → Option (List Out)
  pub faults : L → ℕ

-- a talk: its link before it and behind it, and how it ended
pub record Held (L : Type 0) : Type 0 where
  pub old : L
  pub new : L
  pub end : TalkEnd

module _ {L : Type 0} (allows : List Header → HookAnswer → Type 0) (t : ToldLink L) where
  -- A talk of the one subscriber that there is meanwhile: from where the live queries stood to where they stand then. A failed
  -- link is told only where its own count rose.
  pub record IsHeld (s s' : Standing) (talk : Held L) : Type 0 where
    pub talks : Talks allows 1 s s' (link_of (t.left talk.old) (t.sent talk.old)) (link_of (t.left talk.new) (t.sent talk.new)) talk.end
    pub failed : talk.end ≡ end.LinkFault → Rose (t.faults talk.old) (t.faults talk.new)

  -- talks, one after the other, over the same live queries
  abbrev pub AreHeld : Standing → Standing → List (Held L) → Type 0
  AreHeld s s' [] = s' ≡ s
  AreHeld s s' (talk ∷ talks) = (mid : Standing) × IsHeld s mid talk × AreHeld mid s' talks

-- the ends of talks
abbrev pub ends_of : {L : Type 0} → List (Held L) → List TalkEnd
ends_of [] = []
ends_of (talk ∷ talks) = talk.end ∷ ends_of talks

-- Each talk was with the next peer of a hall that had accepted so many, and whose links were these. Where they are told, the link is
-- then at its place as it is behind the talk.
abbrev pub Accepts : {L : Type 0} → (left : L → Option (List Message)) → (accepted accepted' : ℕ) → (links links' : Option (List L)) → List (Held L) → Type 0
Accepts left accepted accepted' links links' [] = (accepted' ≡ accepted) × (links' ≡ links)
Accepts left accepted accepted' links links' (talk ∷ talks) =
    IsNextTalk left links accepted (Some talk.old) × Accepts left (one_more accepted) accepted' (with_present links (one_more accepted) talk.new) links' talks
