-- Turns of a talk, one more at a time.
use Rattle.std.proofs.Common.{◌++◌, ◌∷◌, [], ℕ, List, refl, subst, Some}
use Rattle.hq_session.specs.declared.header.Header.{Header}
use Rattle.hq_session.specs.declared.hook.HookAnswer.{HookAnswer}
use Rattle.hq_messages.specs.declared.messages.In.{In}
use Rattle.hq_live_talk.specs.Table.{Talk}
use Rattle.hq_live_talk.specs.Talks.{Link, Turns, Turned, Ran, Over}
use Rattle.hq_live_talk.specs.declared.end.TalkEnd.{TalkEnd}
use Rattle.hq_live_talk.specs.declared.end.TalkEnd.TheVariants as end

module _ (allows : List Header → HookAnswer → Type 0) (who : ℕ) where
  -- one more message that was answered
  pub ran_more : (s t u : Talk) (a b c : Link) (messages : List In) (m : In) → Ran allows who s t a b messages → Turns allows who t u b c m
      → Ran allows who s u a c (messages ++ m ∷ [])
  ran_more s t u a b c [] m r h =
      let q : Turns allows who s u a c m = subst (λ (o : Link). Turns allows who s u o c m) r.1 (subst (λ (x : Talk). Turns allows who x u b c m) r.0 h) in
      (u, c, q, (refl, refl))
  ran_more s t u a b c (x ∷ messages) m r h = (r.0, r.1, r.2, ran_more r.0 t u r.1 b c messages m r.3 h)

  -- how a turn ends is how a talk ends, behind whatever messages
  pub over_turned : (s t : Talk) (a b : Link) (n : ℕ) (e : TalkEnd) → Turned allows who s t a b (Some e) → Over allows who s t a b n e
  over_turned s t a b n end.Ended h = h.0
  over_turned s t a b n (end.Closed code) h = h.0
  over_turned s t a b n end.Spent h = absurd (h.1 refl)
  over_turned s t a b n end.LinkFault h = tt
  over_turned s t a b n end.Memory h = tt
