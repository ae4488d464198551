-- Talks that are held one after the other, and one more.
use Rattle.std.proofs.Common.{◌≡◌, ◌++◌, ℕ, suc, List, [], ◌∷◌, length, refl, ap, ◌∙◌, subst}
use Rattle.std.specs.Prelude.{Option, Some}
use Rattle.hq_io.specs.Causes.{one_more}
use Rattle.hq_io.specs.Links.{with_present}
use Rattle.hq_session.specs.declared.header.Header.{Header}
use Rattle.hq_session.specs.declared.hook.HookAnswer.{HookAnswer}
use Rattle.hq_messages.specs.Messages.{IsNextTalk}
use Rattle.hq_messages.specs.declared.messages.Message.{Message}
use Rattle.hq_live.specs.Runs.{Standing}
use Rattle.hq_live_talk.specs.declared.end.TalkEnd.{TalkEnd}
use Rattle.hq_live_serve.specs.Talking.{ToldLink, Held, IsHeld, AreHeld, Accepts, ends_of}
use Rattle.hq_live_serve.specs.Serving.{Holds, HoldsNext}

-- the ends of one more talk
pub ends_more : {L : Type 0} (talks : List (Held L)) (x : Held L) → ends_of (talks ++ x ∷ []) ≡ ends_of talks ++ x.end ∷ []
ends_more [] x = refl
ends_more (y ∷ ys) x = ap (λ w. y.end ∷ w) (ends_more ys x)

pub ends_length : {L : Type 0} (talks : List (Held L)) → length (ends_of talks) ≡ length talks
ends_length [] = refl
ends_length (y ∷ ys) = ap suc (ends_length ys)

-- the next peer of a hall
accepts_more : {L : Type 0} (left : L → Option (List Message)) (a a1 a2 : ℕ) (l l1 l2 : Option (List L)) (talks : List (Held L)) (x : Held L)
    → Accepts left a a1 l l1 talks → Accepts left a1 a2 l1 l2 (x ∷ []) → Accepts left a a2 l l2 (talks ++ x ∷ [])
accepts_more {L} left a a1 a2 l l1 l2 [] x h k =
    subst (λ (n : ℕ). Accepts left n a2 l l2 (x ∷ [])) h.0 (subst (λ (o : Option (List L)). Accepts left a1 a2 o l2 (x ∷ [])) h.1 k)
accepts_more left a a1 a2 l l1 l2 (y ∷ ys) x h k =
    (h.0, accepts_more left (one_more a) a1 a2 (with_present l (one_more a) y.new) l1 l2 ys x h.1 k)

module _ {L : Type 0} (allows : List Header → HookAnswer → Type 0) (t : ToldLink L) where
  held_more : (s m u : Standing) (talks : List (Held L)) (x : Held L) → AreHeld allows t s m talks → AreHeld allows t m u (x ∷ []) → AreHeld allows t s u (talks ++ x ∷ [])
  held_more s m u [] x h k = subst (λ (v : Standing). AreHeld allows t v u (x ∷ [])) h k
  held_more s m u (y ∷ ys) x h k = (h.0, h.1, held_more h.0 m u ys x h.2 k)

  -- one more talk
  pub holds_more : (s m u : Standing) (a a1 a2 : ℕ) (l l1 l2 : Option (List L)) (talks : List (Held L)) (x : Held L)
      → Holds allows t s m a a1 l l1 talks → Holds allows t m u a1 a2 l1 l2 (x ∷ []) → Holds allows t s u a a2 l l2 (talks ++ x ∷ [])
  holds_more s m u a a1 a2 l l1 l2 talks x h k =
      record {
        held = held_more s m u talks x h.held k.held;
        accepted = accepts_more t.left a a1 a2 l l1 l2 talks x h.accepted k.accepted;
      }

  -- no talk
  pub holds_none : (s : Standing) (a : ℕ) (l : Option (List L)) → Holds allows t s s a a l l []
  holds_none s a l = record { held = refl; accepted = (refl, refl) }

  -- the peer that was present is the next one of the hall, and its talk was held
  pub next_held : (s s' : Standing) (a a1 a2 : ℕ) (l l1 l2 : Option (List L)) (present : Option L) (old new : L) (e : TalkEnd)
      → IsNextTalk t.left l a present → present ≡ Some old → a1 ≡ one_more a → l1 ≡ l → a2 ≡ a1 → l2 ≡ with_present l1 a1 new
      → IsHeld allows t s s' (record { old = old; new = new; end = e }) → HoldsNext allows t s s' a a2 l l2 e
  next_held s s' a a1 a2 l l1 l2 present old new e next is count same closed set held =
      let place : with_present l1 a1 new ≡ with_present l (one_more a) new = ap (λ o. with_present o a1 new) same ∙ ap (λ n. with_present l n new) count in
      record {
        talk = record { old = old; new = new; end = e };
        ends = refl;
        holds = record {
          held = (s', held, refl);
          accepted = (subst (λ (p : Option L). IsNextTalk t.left l a p) is next, (closed ∙ count, set ∙ place));
        };
      }
