-- Laws of single tokens, of choices, and of the same parser with another grammar.
use Rattle.std.proofs.Common.{◌≡◌, ℕ, ◌⊎◌, inl, inr, Bool, true, false, not, List, [], ◌∷◌, ◌++◌, length, Option, Some, None, Result, Ok, Err, refl, sym, ap, ◌∙◌, if◌then◌else◌}
use Rattle.hq_base.specs.Due.{◌>>=◌}
use Rattle.hq_gql_lexer.specs.declared.token.Punct.{Punct}
use Rattle.hq_gql_lexer.specs.declared.token.Token.{Token}
use Rattle.hq_gql_lexer.specs.declared.token.TokenKind.TheVariants as kind
use Rattle.hq_gql_parser.specs.declared.lookahead.Lookahead.TheVariants as ahead
use Rattle.hq_gql_parser.specs.declared.stop.Stop.{Stop}
use Rattle.hq_gql_parser.specs.declared.stop.Stop.TheVariants.{Unexpected, TooDeep, Memory}
use Rattle.hq_gql_parser.specs.Lookahead.{next_of, next, is_at}
use Rattle.hq_gql_parser.specs.Languages.{Language}
use Rattle.hq_gql_parser.specs.Documents.{and_then, left_behind, left_behind_punct, brackets_left}
use Rattle.hq_gql_parser.specs.Parsing.{Parse, taken, take, either, too_deep_or_unexpected}
use Rattle.hq_gql_parser.proofs.Sets.{Set, subset, within, joined, first_in, is_end, anything, union, left_holds, right_holds}
use Rattle.hq_gql_parser.proofs.BracketsLeft.{brackets_left_one}
use Rattle.hq_gql_parser.proofs.Exact.{first, first_next, Begins, Taken, Wrong, Deep, Seen, Reads, Exact}

-- ---- one token

-- a token of use
abbrev pub OfUse : {A : Type 0} → (Token → Option A) → A → Language
OfUse use_of x ts = (t : Token) × (ts ≡ t ∷ []) × (use_of t ≡ Some x)

module _ {A : Type 0} (d e : ℕ) (use_of : Token → Option A) (s : Set)
    (starts : (t : Token) (x : A) → use_of t ≡ Some x → s (next_of t.kind) ≡ true)
    (rooms : (t : Token) (x : A) → use_of t ≡ Some x → left_behind t.kind d ≡ Some e) (some : (t : Token) × (x : A) × (use_of t ≡ Some x))
  where
    begins_none : Begins (OfUse use_of) []
    begins_none = (some.0 ∷ [], some.1, (some.0, refl, some.2))

    take_some : (t : Token) (ts : List Token) (x : A) → use_of t ≡ Some x → Taken d e (take use_of) (OfUse use_of) (t ∷ ts) x ts
    take_some t ts x e = (t ∷ [], refl, (t, refl, e), brackets_left_one d t ∙ rooms t x e, λ after h. rw e refl)

    wrong_token : (t : Token) (ts after : List Token) → use_of t ≡ None → first after ≡ Some t → take use_of after ≡ Err (Unexpected (length after))
    wrong_token t ts [] e h = absurd cc
    wrong_token t ts (u ∷ after) e h = let same : u ≡ t = cc in rw (same, e) refl

    take_none : (t : Token) (ts : List Token) → use_of t ≡ None → Wrong d (take use_of) (OfUse use_of) (t ∷ ts) (length (t ∷ ts))
    take_none t ts e = ([], t ∷ ts, refl, refl, begins_none, (d, refl), λ after h. wrong_token t ts after e h)

    take_by : (t : Token) (ts : List Token) (u : Option A) → use_of t ≡ u → Seen d e (take use_of) (OfUse use_of) (t ∷ ts) (taken u t ts)
    take_by t ts None e = take_none t ts e
    take_by t ts (Some x) e = take_some t ts x e

    take_end : (after : List Token) → first after ≡ None → take use_of after ≡ Err (Unexpected (length after))
    take_end [] h = refl
    take_end (u ∷ after) h = absurd cc

    take_seen : (ts : List Token) → Seen d e (take use_of) (OfUse use_of) ts (take use_of ts)
    take_seen [] = ([], [], refl, refl, begins_none, (d, refl), take_end)
    take_seen (t ∷ ts) = take_by t ts (use_of t) refl

    pub exact_take : Exact d e (take use_of) (OfUse use_of) s anything
    exact_take = record {
      some = (some.1, some.0 ∷ [], (some.0, refl, some.2));
      seen = take_seen;
      begins = λ x front (t, is, e). rw is (starts t x e);
      reads = λ x front after (t, is, e) h. rw (is, e) (inl (brackets_left_one d t ∙ rooms t x e, refl));
    }

-- ---- nothing

abbrev pub Only : {A : Type 0} → A → A → Language
Only x y ts = (y ≡ x) × (ts ≡ [])

pub exact_pure : {A : Type 0} (d : ℕ) (x : A) → Exact d d (λ ts. Ok (x, ts)) (Only x) is_end anything
exact_pure d x = record {
  some = (x, [], (refl, refl));
  seen = λ ts. ([], refl, (refl, refl), refl, λ after h. refl);
  begins = λ y front (e, is). rw is refl;
  reads = λ y front after (e, is) h. rw (is, e) (inl (refl, refl));
}

-- ---- the same parser

module _ {A : Type 0} {d e : ℕ} {p : Parse A} {R : A → Language} {s k : Set} (T : A → Language) (s' k' : Set) (law : Exact d e p R s k)
    (to : (x : A) (ts : List Token) → R x ts → T x ts) (from : (x : A) (ts : List Token) → T x ts → R x ts) (starts : subset s s' ≡ true)
    (follow : subset k' k ≡ true) where
  as_seen : (ts : List Token) (r : Result (A × List Token) Stop) → Seen d e p R ts r → Seen d e p T ts r
  as_seen ts (Ok x) (front, is, r, m, local) = (front, is, to x.0 front r, m, local)
  as_seen ts (Err (Unexpected n)) (front, rest, is, len, (more, x, r), m, local) = (front, rest, is, len, (more, x, to x (front ++ more) r), m, local)
  as_seen ts (Err (TooDeep n)) (front, t, rest, is, len, (more, x, r), m, o) = (front, t, rest, is, len, (more, x, to x ((front ++ t ∷ []) ++ more) r), m, o)
  as_seen ts (Err Memory) seen = absurd seen

  -- with an equal grammar, more that it may begin with, and less that may follow
  pub exact_as : Exact d e p T s' k'
  exact_as = record {
    some = (law.some.0, law.some.1, to law.some.0 law.some.1 law.some.2);
    seen = λ ts. as_seen ts (p ts) (law.seen ts);
    begins = λ x front r. within s s' starts (next front) (law.begins x front (from x front r));
    reads = λ x front after r h. law.reads x front after (from x front r) (within k' k follow (next after) h);
  }

-- ---- a value made of what is taken

abbrev pub Mapped : {A B : Type 0} → (A → B) → (A → Language) → B → Language
Mapped {A} f R y ts = (x : A) × (y ≡ f x) × R x ts

module _ {A B : Type 0} (d e : ℕ) (p : Parse A) (R : A → Language) (f : A → B) where
  abbrev pub mapped : Parse B
  mapped ts = p ts >>= λ x. Ok (f x.0, x.1)

  pub mapped_seen : (ts : List Token) (r : Result (A × List Token) Stop) → Seen d e p R ts r → Seen d e mapped (Mapped f R) ts (r >>= λ x. Ok (f x.0, x.1))
  mapped_seen ts (Ok x) (front, is, r, m, local) = (front, is, (x.0, refl, r), m, λ after h. rw (local after h) refl)
  mapped_seen ts (Err (Unexpected n)) (front, rest, is, len, (more, x, r), m, local) = (front, rest, is, len, (more, f x, (x, refl, r)), m, λ after h. rw (local after h) refl)
  mapped_seen ts (Err (TooDeep n)) (front, t, rest, is, len, (more, x, r), m, o) = (front, t, rest, is, len, (more, f x, (x, refl, r)), m, o)
  mapped_seen ts (Err Memory) seen = absurd seen

  pub mapped_reads : (x : A) (y : B) (front after : List Token) (r : Result (A × List Token) Stop) → y ≡ f x → Reads d e front r (x, after) → Reads d e front (r >>= λ z. Ok (f z.0, z.1)) (y, after)
  mapped_reads x y front after r same (inl (m, is)) = inl (m, rw (is, same) refl)
  mapped_reads x y front after r same (inr (n, m, is)) = inr (n, m, rw is refl)

module _ {A B : Type 0} {d e : ℕ} {p : Parse A} {R : A → Language} {s k : Set} (f : A → B) (law : Exact d e p R s k) where
  pub exact_map : Exact d e (λ ts. p ts >>= λ x. Ok (f x.0, x.1)) (Mapped f R) s k
  exact_map = record {
    some = (f law.some.0, law.some.1, (law.some.0, refl, law.some.2));
    seen = λ ts. mapped_seen d e p R f ts (p ts) (law.seen ts);
    begins = λ y front (x, same, r). law.begins x front r;
    reads = λ y front after (x, same, r) h. mapped_reads d e p R f x y front after (p (front ++ after)) same (law.reads x front after r h);
  }

-- ---- this or that

abbrev pub Either : {A : Type 0} → (A → Language) → (A → Language) → A → Language
Either R S x ts = R x ts ⊎ S x ts

module _ {A : Type 0} (d e : ℕ) (test : Set) (p q : Parse A) (R S : A → Language) where
  ahead_is : (front after rest ts : List Token) (b : Bool) → first after ≡ first rest → ts ≡ front ++ rest → test (next ts) ≡ b → test (next (front ++ after)) ≡ b
  ahead_is [] after rest ts b h is t = ap test (first_next after rest h ∙ ap next (sym is)) ∙ t
  ahead_is (u ∷ front) after rest ts b h is t = ap (λ us. test (next us)) (sym is) ∙ t

  pub on_seen : (ts : List Token) → test (next ts) ≡ true → (r : Result (A × List Token) Stop) → Seen d e p R ts r → Seen d e (either test p q) (Either R S) ts r
  on_seen ts t (Ok x) (front, is, r, m, local) = (front, is, inl r, m, λ after h. rw (ahead_is front after x.1 ts true h is t) (local after h))
  on_seen ts t (Err (Unexpected n)) (front, rest, is, len, (more, x, r), m, local) =
      (front, rest, is, len, (more, x, inl r), m, λ after h. rw (ahead_is front after rest ts true h is t) (local after h))
  on_seen ts t (Err (TooDeep n)) (front, u, rest, is, len, (more, x, r), m, o) = (front, u, rest, is, len, (more, x, inl r), m, o)
  on_seen ts t (Err Memory) seen = absurd seen

  pub off_seen : (ts : List Token) → test (next ts) ≡ false → (r : Result (A × List Token) Stop) → Seen d e q S ts r → Seen d e (either test p q) (Either R S) ts r
  off_seen ts t (Ok x) (front, is, r, m, local) = (front, is, inr r, m, λ after h. rw (ahead_is front after x.1 ts false h is t) (local after h))
  off_seen ts t (Err (Unexpected n)) (front, rest, is, len, (more, x, r), m, local) =
      (front, rest, is, len, (more, x, inr r), m, λ after h. rw (ahead_is front after rest ts false h is t) (local after h))
  off_seen ts t (Err (TooDeep n)) (front, u, rest, is, len, (more, x, r), m, o) = (front, u, rest, is, len, (more, x, inr r), m, o)
  off_seen ts t (Err Memory) seen = absurd seen

module _ {A : Type 0} {d e : ℕ} (test : Set) {p q : Parse A} {R S : A → Language} {s1 s2 k : Set} (law_p : Exact d e p R s1 k) (law_q : Exact d e q S s2 k)
    (on : subset (joined s1 k) test ≡ true) (off : subset (joined s2 k) (λ a. not (test a)) ≡ true) where
  by_test : (ts : List Token) (b : Bool) → test (next ts) ≡ b → Seen d e (either test p q) (Either R S) ts (if b then p ts else q ts)
  by_test ts true t = on_seen d e test p q R S ts t (p ts) (law_p.seen ts)
  by_test ts false t = off_seen d e test p q R S ts t (q ts) (law_q.seen ts)

  not_true : (b : Bool) → not b ≡ true → b ≡ false
  not_true true e = absurd cc
  not_true false e = refl

  either_reads : (x : A) (front after : List Token) → Either R S x front → k (next after) ≡ true → Reads d e front (either test p q (front ++ after)) (x, after)
  either_reads x front after (inl r) h =
      let t : test (next (front ++ after)) ≡ true = within (joined s1 k) test on (next (front ++ after)) (first_in s1 k front after (law_p.begins x front r) h) in
      rw t (law_p.reads x front after r h)
  either_reads x front after (inr r) h =
      let n : not (test (next (front ++ after))) ≡ true = within (joined s2 k) (λ a. not (test a)) off (next (front ++ after)) (first_in s2 k front after (law_q.begins x front r) h) in
      let t : test (next (front ++ after)) ≡ false = not_true (test (next (front ++ after))) n in
      rw t (law_q.reads x front after r h)

  either_begins : (x : A) (front : List Token) → Either R S x front → union s1 s2 (next front) ≡ true
  either_begins x front (inl r) = left_holds (s1 (next front)) (s2 (next front)) (law_p.begins x front r)
  either_begins x front (inr r) = right_holds (s1 (next front)) (s2 (next front)) (law_q.begins x front r)

  pub exact_either : Exact d e (either test p q) (Either R S) (union s1 s2) k
  exact_either = record {
    some = (law_p.some.0, law_p.some.1, inl law_p.some.2);
    seen = λ ts. by_test ts (test (next ts)) refl;
    begins = either_begins;
    reads = either_reads;
  }

-- ---- a bracket that is one too many

module _ {A : Type 0} (e : ℕ) (p : Punct) (R : A → Language) (k : Set) (some : (x : A) × (front : List Token) × R x front)
    (begins : (t : Token) → t.kind ≡ kind.Punct p → Begins R (t ∷ []))
    (opens : (x : A) (front : List Token) → R x front → (t : Token) × (rest : List Token) × (front ≡ t ∷ rest) × (t.kind ≡ kind.Punct p))
    (is_bracket : left_behind_punct p 0 ≡ None) (same : is_at (ahead.Punct p) (ahead.Punct p) ≡ true)
    (only : (t : Token) → is_at (ahead.Punct p) (next_of t.kind) ≡ true → t.kind ≡ kind.Punct p) where
  abbrev stopped : Parse A
  stopped ts = Err (too_deep_or_unexpected p ts)

  stop : Bool → List Token → Stop
  stop b ts = if b then TooDeep (length ts) else Unexpected (length ts)

  stops_here : (ts : List Token) → is_at (ahead.Punct p) (next ts) ≡ true → Deep 0 R ts (length ts)
  unfolding is_at
  stops_here [] t = absurd cc
  stops_here (t ∷ ts) h = let is = only t h in ([], t, ts, refl, refl, begins t is, refl, ap (λ k. left_behind k 0) is ∙ is_bracket)

  none_here : (ts : List Token) → is_at (ahead.Punct p) (next ts) ≡ false → Wrong 0 stopped R ts (length ts)
  unfolding too_deep_or_unexpected
  none_here ts h = ([], ts, refl, refl, (some.1, some.0, some.2), (0, refl), λ after g. rw (ap (is_at (ahead.Punct p)) (first_next after ts g) ∙ h) refl)

  stopped_by : (ts : List Token) (b : Bool) → is_at (ahead.Punct p) (next ts) ≡ b → Seen 0 e stopped R ts (Err (if b then TooDeep (length ts) else Unexpected (length ts)))
  stopped_by ts true h = stops_here ts h
  stopped_by ts false h = none_here ts h

  brackets_left_zero : (t : Token) (rest : List Token) → t.kind ≡ kind.Punct p → brackets_left 0 (t ∷ rest) ≡ None
  brackets_left_zero t rest is = ap (λ k. and_then (λ m. brackets_left m rest) (left_behind k 0)) is ∙ ap (and_then (λ m. brackets_left m rest)) is_bracket

  stopped_token : (t : Token) (rest : List Token) → t.kind ≡ kind.Punct p → stopped (t ∷ rest) ≡ Err (TooDeep (length (t ∷ rest)))
  unfolding too_deep_or_unexpected
  stopped_token t rest is = let at_p : is_at (ahead.Punct p) (next_of t.kind) ≡ true = ap (λ k. is_at (ahead.Punct p) (next_of k)) is ∙ same in rw at_p refl

  stopped_reads : (x : A) (front after : List Token) (t : Token) (rest : List Token) → front ≡ t ∷ rest → t.kind ≡ kind.Punct p → Reads 0 e front (stopped (front ++ after)) (x, after)
  stopped_reads x front after t rest is is_p = rw is (inr (length (t ∷ (rest ++ after)), brackets_left_zero t rest is_p, stopped_token t (rest ++ after) is_p))

  pub exact_stopped : Exact 0 e stopped R (is_at (ahead.Punct p)) k
  unfolding too_deep_or_unexpected
  exact_stopped = record {
    some = some;
    seen = λ ts. stopped_by ts (is_at (ahead.Punct p) (next ts)) refl;
    begins = λ x front r. let o = opens x front r in rw o.2 (rw o.3 same);
    reads = λ x front after r h. let o = opens x front r in stopped_reads x front after o.0 o.1 o.2 o.3;
  }
