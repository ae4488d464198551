-- What holds of each parser, and of parsers put together: it takes exactly what the grammar has, looks one token ahead,
-- and stops at the first token that no sentence goes on with, or at the first bracket that is one too many.
use Rattle.std.proofs.Common.{◌≡◌, ℕ, ◌⊎◌, inl, inr, true, List, [], ◌∷◌, ◌++◌, length, Option, Some, None, Result, Ok, Err, refl, sym, ap, subst, ◌∙◌, append_assoc}
use Rattle.hq_base.specs.Due.{◌>>=◌}
use Rattle.hq_gql_lexer.specs.declared.token.Token.{Token}
use Rattle.hq_gql_parser.specs.declared.stop.Stop.{Stop}
use Rattle.hq_gql_parser.specs.declared.stop.Stop.TheVariants.{Unexpected, TooDeep, Memory}
use Rattle.hq_gql_parser.specs.Lookahead.{next_of, next}
use Rattle.hq_gql_parser.specs.Languages.{Language, ◌▸◌}
use Rattle.hq_gql_parser.specs.Documents.{left_behind, brackets_left}
use Rattle.hq_gql_parser.specs.Parsing.{Parse}
use Rattle.hq_gql_parser.proofs.Sets.{Set, subset, within, joined, first_in}
use Rattle.hq_gql_parser.proofs.BracketsLeft.{brackets_left_then, brackets_left_none}

-- the first token
abbrev pub first : List Token → Option Token
first [] = None
first (t ∷ ts) = Some t

-- some sentence of the grammar begins so
abbrev pub Begins : {A : Type 0} → (A → Language) → List Token → Type 0
Begins {A} R front = (more : List Token) × (x : A) × R x (front ++ more)

-- behind the front the parser answers the same, whatever stands behind the next token
abbrev pub Local : {A : Type 0} → Parse A → (front rest : List Token) → Parse A → Type 0
Local p front rest answer = (after : List Token) → first after ≡ first rest → p (front ++ after) ≡ answer after

abbrev pub Taken : {A : Type 0} → (d e : ℕ) → Parse A → (A → Language) → List Token → A → List Token → Type 0
Taken d e p R ts x rest = (front : List Token) × (ts ≡ front ++ rest) × R x front × (brackets_left d front ≡ Some e) × Local p front rest (λ after. Ok (x, after))

abbrev pub Wrong : {A : Type 0} → (d : ℕ) → Parse A → (A → Language) → List Token → ℕ → Type 0
Wrong d p R ts n =
    (front : List Token) × (rest : List Token) × (ts ≡ front ++ rest) × (n ≡ length rest) × Begins R front
    × ((m : ℕ) × (brackets_left d front ≡ Some m)) × Local p front rest (λ after. Err (Unexpected (length after)))

abbrev pub Deep : {A : Type 0} → (d : ℕ) → (A → Language) → List Token → ℕ → Type 0
Deep d R ts n =
    (front : List Token) × (t : Token) × (rest : List Token) × (ts ≡ front ++ (t ∷ rest)) × (n ≡ length (t ∷ rest))
    × Begins R (front ++ t ∷ []) × (brackets_left d front ≡ Some 0) × (left_behind t.kind 0 ≡ None)

-- an answer is right, where so many brackets may open before and behind what is taken
abbrev pub Seen : {A : Type 0} → (d e : ℕ) → Parse A → (A → Language) → List Token → Result (A × List Token) Stop → Type 0
Seen d e p R ts (Ok x) = Taken d e p R ts x.0 x.1
Seen d e p R ts (Err (Unexpected n)) = Wrong d p R ts n
Seen d e p R ts (Err (TooDeep n)) = Deep d R ts n
Seen d e p R ts (Err Memory) = ⊥

-- a sentence is taken, unless it opens one bracket too many
abbrev pub Reads : {A : Type 0} → (d e : ℕ) → List Token → Result (A × List Token) Stop → A × List Token → Type 0
Reads d e front r x = ((brackets_left d front ≡ Some e) × (r ≡ Ok x)) ⊎ ((n : ℕ) × (brackets_left d front ≡ None) × (r ≡ Err (TooDeep n)))

-- The law of a parser of this grammar. What it takes begins with one of `starts`, which has the end where it may take
-- nothing; and it takes a whole sentence where one of `follow` stands behind it.
pub record Exact {A : Type 0} (d e : ℕ) (p : Parse A) (R : A → Language) (starts follow : Set) : Type 0 where
  pub some : (x : A) × (front : List Token) × R x front
  pub seen : (ts : List Token) → Seen d e p R ts (p ts)
  pub begins : (x : A) (front : List Token) → R x front → starts (next front) ≡ true
  pub reads : (x : A) (front after : List Token) → R x front → follow (next after) ≡ true → Reads d e front (p (front ++ after)) (x, after)

first-append : (front after rest : List Token) → first after ≡ first rest → first (front ++ after) ≡ first (front ++ rest)
first-append [] after rest e = e
first-append (t ∷ front) after rest e = refl

pub first_next : (a b : List Token) → first a ≡ first b → next a ≡ next b
first_next [] [] e = refl
first_next [] (u ∷ b) e = absurd cc
first_next (t ∷ a) [] e = absurd cc
first_next (t ∷ a) (u ∷ b) e = let same : t ≡ u = cc in ap (λ v. next_of v.kind) same

-- ---- one parser behind the other

-- what the two take
abbrev pub Chain : {A B : Type 0} → (A → Language) → (A → B → Language) → B → Language
Chain {A} R S y ts = (x : A) × (R x ▸ S x y) ts

module _ {A B : Type 0} (d e f : ℕ) (p : Parse A) (q : A → Parse B) (R : A → Language) (S : A → B → Language) (some : (x : A) → (y : B) × (front : List Token) × S x y front) where
  abbrev both : Parse B
  both ts = p ts >>= λ x. q x.0 x.1

  begins_first : (front : List Token) → Begins R front → Begins (Chain R S) front
  begins_first front (more, x, r) =
      let s = some x in (more ++ s.1, s.0, (x, (front ++ more, s.1, sym (append_assoc front more s.1), r, s.2)))

  begins_second : (a b : List Token) (x : A) → R x a → Begins (S x) b → Begins (Chain R S) (a ++ b)
  begins_second a b x r (more, y, s) = (more, y, (x, (a, b ++ more, append_assoc a b more, r, s)))

  pub first_wrong : (ts : List Token) (n : ℕ) → Wrong d p R ts n → Wrong d both (Chain R S) ts n
  first_wrong ts n (front, rest, is, len, b, m, local) = (front, rest, is, len, begins_first front b, m, λ after h. rw (local after h) refl)

  pub first_deep : (ts : List Token) (n : ℕ) → Deep d R ts n → Deep d (Chain R S) ts n
  first_deep ts n (front, t, rest, is, len, b, m, o) = (front, t, rest, is, len, begins_first (front ++ t ∷ []) b, m, o)

  second_wrong : (ts : List Token) (x : A) (rest : List Token) (n : ℕ) → Taken d e p R ts x rest → Wrong e (q x) (S x) rest n → Wrong d both (Chain R S) ts n
  second_wrong ts x rest n (a, is, r, m, local) (b, rest', is', len, begins, m', local') = (
    a ++ b,
    rest',
    is ∙ ap (λ us. a ++ us) is' ∙ sym (append_assoc a b rest'),
    len,
    begins_second a b x r begins,
    (m'.0, brackets_left_then d e a b m ∙ m'.1),
    λ after h.
        let same : first (b ++ after) ≡ first rest = first-append b after rest' h ∙ ap first (sym is') in
        rw (append_assoc a b after, local (b ++ after) same) (local' after h),
  )

  second_deep : (ts : List Token) (x : A) (rest : List Token) (n : ℕ) → Taken d e p R ts x rest → Deep e (S x) rest n → Deep d (Chain R S) ts n
  second_deep ts x rest n (a, is, r, m, local) (b, t, rest', is', len, begins, m', o) = (
    a ++ b,
    t,
    rest',
    is ∙ ap (λ us. a ++ us) is' ∙ sym (append_assoc a b (t ∷ rest')),
    len,
    subst (Begins (Chain R S)) (sym (append_assoc a b (t ∷ []))) (begins_second a (b ++ t ∷ []) x r begins),
    brackets_left_then d e a b m ∙ m',
    o,
  )

  second_taken : (ts : List Token) (x : A) (rest : List Token) (y : B) (rest' : List Token) → Taken d e p R ts x rest → Taken e f (q x) (S x) rest y rest' → Taken d f both (Chain R S) ts y rest'
  second_taken ts x rest y rest' (a, is, r, m, local) (b, is', s, m', local') = (
    a ++ b,
    is ∙ ap (λ us. a ++ us) is' ∙ sym (append_assoc a b rest'),
    (x, (a, b, refl, r, s)),
    brackets_left_then d e a b m ∙ m',
    λ after h.
        let same : first (b ++ after) ≡ first rest = first-append b after rest' h ∙ ap first (sym is') in
        rw (append_assoc a b after, local (b ++ after) same) (local' after h),
  )

  pub second : (ts : List Token) (x : A) (rest : List Token) → Taken d e p R ts x rest → (r : Result (B × List Token) Stop) → Seen e f (q x) (S x) rest r → Seen d f both (Chain R S) ts r
  second ts x rest took (Ok y) seen = second_taken ts x rest y.0 y.1 took seen
  second ts x rest took (Err (Unexpected n)) seen = second_wrong ts x rest n took seen
  second ts x rest took (Err (TooDeep n)) seen = second_deep ts x rest n took seen
  second ts x rest took (Err Memory) seen = absurd seen

  pub by_first : (ts : List Token) → ((x : A) (us : List Token) → Seen e f (q x) (S x) us (q x us)) → (r : Result (A × List Token) Stop)
      → Seen d e p R ts r → Seen d f both (Chain R S) ts (r >>= λ y. q y.0 y.1)
  by_first ts law_q (Ok x) seen = second ts x.0 x.1 seen (q x.0 x.1) (law_q x.0 x.1)
  by_first ts law_q (Err (Unexpected n)) seen = first_wrong ts n seen
  by_first ts law_q (Err (TooDeep n)) seen = first_deep ts n seen
  by_first ts law_q (Err Memory) seen = absurd seen

  reads_second : (a b after : List Token) (x : A) (y : B) (r : Result (B × List Token) Stop) → brackets_left d a ≡ Some e → Reads e f b r (y, after) → Reads d f (a ++ b) r (y, after)
  reads_second a b after x y r m (inl (m', e')) = inl (brackets_left_then d e a b m ∙ m', e')
  reads_second a b after x y r m (inr (n, m', e')) = inr (n, brackets_left_then d e a b m ∙ m', e')

  pub reads_both : (a b after : List Token) (x : A) (y : B) (r : Result (A × List Token) Stop) → Reads d e a r (x, b ++ after)
      → Reads e f b (q x (b ++ after)) (y, after) → Reads d f (a ++ b) (r >>= λ z. q z.0 z.1) (y, after)
  reads_both a b after x y r (inl (m, is)) on_q = rw is (reads_second a b after x y (q x (b ++ after)) m on_q)
  reads_both a b after x y r (inr (n, m, is)) on_q = inr (n, brackets_left_none d a b m, rw is refl)

module _ {A B : Type 0} {d e f : ℕ} {p : Parse A} {q : A → Parse B} {R : A → Language} {S : A → B → Language} {s1 k1 s2 k2 : Set}
    (law_p : Exact d e p R s1 k1) (law_q : (x : A) → Exact e f (q x) (S x) s2 k2) (fits : subset (joined s2 k2) k1 ≡ true) where
  chain_begins : (y : B) (front : List Token) → Chain R S y front → joined s1 s2 (next front) ≡ true
  chain_begins y front (x, (a, b, is, r, s)) = rw is (first_in s1 s2 a b (law_p.begins x a r) ((law_q x).begins y b s))

  chain_reads : (y : B) (front after : List Token) → Chain R S y front → k2 (next after) ≡ true → Reads d f front (p (front ++ after) >>= λ z. q z.0 z.1) (y, after)
  chain_reads y front after (x, (a, b, is, r, s)) h =
      let follows : k1 (next (b ++ after)) ≡ true = within (joined s2 k2) k1 fits (next (b ++ after)) (first_in s2 k2 b after ((law_q x).begins y b s) h) in
      let on_p : Reads d e a (p ((a ++ b) ++ after)) (x, b ++ after) = rw append_assoc (law_p.reads x a (b ++ after) r follows) in
      rw is (reads_both d e f p q R S (λ z. (law_q z).some) a b after x y (p ((a ++ b) ++ after)) on_p ((law_q x).reads y b after s h))

  pub exact_then : Exact d f (λ ts. p ts >>= λ x. q x.0 x.1) (Chain R S) (joined s1 s2) k2
  exact_then = record {
    some = let x = law_p.some in let y = (law_q x.0).some in (y.0, x.1 ++ y.1, (x.0, (x.1, y.1, refl, x.2, y.2)));
    seen = λ ts. by_first d e f p q R S (λ z. (law_q z).some) ts (λ x. (law_q x).seen) (p ts) (law_p.seen ts);
    begins = chain_begins;
    reads = chain_reads;
  }
