-- Talks with a line after each: how they go on, and how they end.
use Rattle.std.proofs.Common.{◌≡◌, ◌<◌, ◌+◌, ◌++◌, ◌∙◌, ℕ, List, [], ◌∷◌, length, refl, sym, ap, subst, arith, length-append}
use Rattle.std.specs.Prelude.{Option}
use Rattle.std.specs.declared.result.Result.TheVariants.{Err}
use Rattle.std.specs.Io.KnownBytes.{Appends}
use Rattle.hq_io.proofs.Pieces.{appends_none}
use Rattle.hq_session.specs.declared.header.Header.{Header}
use Rattle.hq_session.specs.declared.hook.HookAnswer.{HookAnswer}
use Rattle.hq_live.specs.Runs.{Standing}
use Rattle.hq_live_talk.specs.declared.end.TalkEnd.{TalkEnd}
use Rattle.hq_serve.specs.declared.serving.ServeRefusal.{ServeRefusal}
use Rattle.hq_live_serve.specs.Lines.{line_of, lines_from}
use Rattle.hq_live_serve.specs.Talking.{ToldLink, ends_of}
use Rattle.hq_serve.specs.Serving.{Wrote}
use Rattle.hq_live_serve.specs.Serving.{HeldSoFar, HoldsNext, LinesBy, ServesTalks}
use Rattle.hq_live_serve.proofs.Held.{ends_more, ends_length, holds_more, holds_none}
use Rattle.hq_live_serve.proofs.LineLemmas.{lines_written, line_failed}

module _ {L : Type 0} (allows : List Header → HookAnswer → Type 0) (t : ToldLink L) where
  -- before the first talk
  pub held_none : (s : Standing) (a : ℕ) (l : Option (List L)) (w : Option (List ℕ)) → HeldSoFar allows t 0 s s a a l l w w
  held_none s a l w = record { talks = []; count = refl; lines = appends_none w; holds = holds_none allows t s a l }

  module _ (n : ℕ) (s m u : Standing) (a a1 a2 : ℕ) (l l1 l2 : Option (List L)) (w w1 w2 : Option (List ℕ)) (e : TalkEnd)
      (r : HeldSoFar allows t n s m a a1 l l1 w w1) (x : HoldsNext allows t m u a1 a2 l1 l2 e) where
    longer : length (r.talks ++ x.talk ∷ []) ≡ n + 1
    longer = length-append r.talks (x.talk ∷ []) ∙ ap (λ k. k + 1) r.count

    counted : length (ends_of r.talks) ≡ n
    counted = ends_length r.talks ∙ r.count

    ended : ends_of (r.talks ++ x.talk ∷ []) ≡ ends_of r.talks ++ e ∷ []
    ended = ends_more r.talks x.talk ∙ ap (λ y. ends_of r.talks ++ y ∷ []) x.ends

    -- a talk more, and its line
    pub held_more : Appends w1 w2 (line_of (n + 1) e) → HeldSoFar allows t (n + 1) s u a a2 l l2 w w2
    held_more line =
        let P : List TalkEnd → Type 0 = λ ends. Appends w w2 (lines_from 1 ends) in
        record {
          talks = r.talks ++ x.talk ∷ [];
          count = longer;
          lines = subst P (sym ended) (lines_written n (ends_of r.talks) e w w1 w2 counted r.lines line);
          holds = holds_more allows t s m u a a1 a2 l l1 l2 r.talks x.talk r.holds x.holds;
        }

    -- a talk more, whose line was not written whole
    pub serves_unwritten : (count : ℕ) (refused : ServeRefusal) → n < count → Wrote w1 w2 (line_of (n + 1) e) (Err refused)
        → ServesTalks allows t count s u a a2 l l2 w w2 (Err refused)
    serves_unwritten count refused lt wrote =
        let P : List TalkEnd → Type 0 = λ ends. LinesBy w w2 ends (Err refused) in
        record {
          talks = r.talks ++ x.talk ∷ [];
          few = omega (arith, longer, lt);
          all = tt;
          lines = subst P (sym ended) (line_failed n (ends_of r.talks) e w w1 w2 refused counted r.lines wrote);
          holds = holds_more allows t s m u a a1 a2 l l1 l2 r.talks x.talk r.holds x.holds;
        }
