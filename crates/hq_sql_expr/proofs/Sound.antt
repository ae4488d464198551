-- What is read is spelled so: the steps that each reader is made of.
use Rattle.std.proofs.Common.{◌≡◌, ℕ, eqb, eq-eqb, Bool, true, false, cond, List, [], ◌∷◌, ◌++◌, Option, Some, None, refl, sym, ap, subst, ◌∙◌, append_assoc}
use Rattle.std.proofs.lemmas.List.{append-nil}
use Rattle.std.proofs.lemmas.Bool.{eqb-true}
use Rattle.hq_sql_tree.specs.declared.word.Word.{Word}
use Rattle.hq_sql_tree.specs.Word.{word_text}
use Rattle.hq_sql_expr.specs.Reading.{◌>>=◌, Reader, after, strip, choose, first_of}

-- a reader took only what the relation has
abbrev pub Taken : {A : Type 0} → (List ℕ → A → Type 0) → List ℕ → Option (A × List ℕ) → Type 0
Taken R bytes None = Unit {0}
Taken R bytes (Some x) = (front : List ℕ) × (bytes ≡ front ++ x.1) × R front x.0

pub record Sound {A : Type 0} (p : Reader A) (R : List ℕ → A → Type 0) : Type 0 where
  pub takes : (bytes : List ℕ) → Taken R bytes (p bytes)

-- the front is the spelling of a value that is good
abbrev pub Spelled : {A : Type 0} → (A → List ℕ) → (A → Type 0) → List ℕ → A → Type 0
Spelled spelled Good front x = (front ≡ spelled x) × Good x

-- ---- one reader after another

module _ {A B : Type 0} (p : Reader A) (f : A → Reader B) (spelled : A → List ℕ) (Good : A → Type 0) (T : List ℕ → B → Type 0) where
  second : (bytes a rest : List ℕ) (x : A) → bytes ≡ a ++ rest → a ≡ spelled x → (r : Option (B × List ℕ)) → Taken (λ b y. T (spelled x ++ b) y) rest r → Taken T bytes r
  second bytes a rest x e is None h = tt
  second bytes a rest x e is (Some y) (b, e2, s) = (a ++ b, e ∙ ap (λ t. a ++ t) e2 ∙ sym (append_assoc a b y.1), subst (λ c. T (c ++ b) y.0) (sym is) s)

  by_first : (bytes : List ℕ) → ((x : A) → Good x → Sound (f x) (λ b y. T (spelled x ++ b) y)) → (r : Option (A × List ℕ)) → Taken (Spelled spelled Good) bytes r → Taken T bytes (r >>= λ y. f y.0 y.1)
  by_first bytes sound_f None h = tt
  by_first bytes sound_f (Some x) (a, e, r) = second bytes a x.1 x.0 e r.0 (f x.0 x.1) ((sound_f x.0 r.1).takes x.1)

  pub sound_next : Sound p (Spelled spelled Good) → ((x : A) → Good x → Sound (f x) (λ b y. T (spelled x ++ b) y)) → Sound (λ bytes. p bytes >>= λ y. f y.0 y.1) T
  sound_next sound_p sound_f = record { takes = λ bytes. by_first bytes sound_f (p bytes) (sound_p.takes bytes) }

module _ {A B : Type 0} (p : Reader A) (g : A → B) (spelled : A → List ℕ) (Good : A → Type 0) (T : List ℕ → B → Type 0) (gives : (x : A) → Good x → T (spelled x) (g x)) where
  map_taken : (bytes : List ℕ) (r : Option (A × List ℕ)) → Taken (Spelled spelled Good) bytes r → Taken T bytes (r >>= λ x. Some (g x.0, x.1))
  map_taken bytes None h = tt
  map_taken bytes (Some x) (a, e, r) = (a, e, subst (λ c. T c (g x.0)) (sym r.0) (gives x.0 r.1))

  -- the last one
  pub sound_last : Sound p (Spelled spelled Good) → Sound (λ bytes. p bytes >>= λ x. Some (g x.0, x.1)) T
  sound_last sound_p = record { takes = λ bytes. map_taken bytes (p bytes) (sound_p.takes bytes) }

-- what is read first, or where it is not read the other reader
module _ {A B : Type 0} (p : Reader A) (f : A → Reader B) (q : Reader B) (spelled : A → List ℕ) (Good : A → Type 0) (T : List ℕ → B → Type 0) where
  by_either : (bytes : List ℕ) → ((x : A) → Good x → Sound (f x) (λ b y. T (spelled x ++ b) y)) → Taken T bytes (q bytes)
      → (r : Option (A × List ℕ)) → Taken (Spelled spelled Good) bytes r → Taken T bytes (first_of r (λ y. f y.0 y.1) (q bytes))
  by_either bytes sound_f taken None h = taken
  by_either bytes sound_f taken (Some x) (a, e, r) = second p f spelled Good T bytes a x.1 x.0 e r.0 (f x.0 x.1) ((sound_f x.0 r.1).takes x.1)

  pub sound_first : Sound p (Spelled spelled Good) → ((x : A) → Good x → Sound (f x) (λ b y. T (spelled x ++ b) y)) → Sound q T → Sound (λ bytes. first_of (p bytes) (λ y. f y.0 y.1) (q bytes)) T
  sound_first sound_p sound_f sound_q = record { takes = λ bytes. by_either bytes sound_f (sound_q.takes bytes) (p bytes) (sound_p.takes bytes) }

-- ---- fixed words

cond_some : (b : Bool) (x : Option (List ℕ)) (y : List ℕ) → cond b x None ≡ Some y → (b ≡ true) × (x ≡ Some y)
cond_some true x y e = (refl, e)
cond_some false x y e = absurd cc

pub strip_takes : (w bytes rest : List ℕ) → strip w bytes ≡ Some rest → bytes ≡ w ++ rest
strip_takes [] bytes rest e = cc
strip_takes (w ∷ ws) [] rest e = absurd cc
strip_takes (w ∷ ws) (b ∷ bytes) rest e =
    let k = cond_some (eqb b w) (strip ws bytes) rest e in
    ap (λ c. c ∷ bytes) (eqb-true b w k.0) ∙ ap (λ t. w ∷ t) (strip_takes ws bytes rest k.1)

pub strip_again : (w rest : List ℕ) → strip w (w ++ rest) ≡ Some rest
strip_again [] rest = refl
strip_again (w ∷ ws) rest = rw (eq-eqb w w refl) (strip_again ws rest)

pub after_takes : (w : Word) (bytes rest : List ℕ) → after w bytes ≡ Some rest → bytes ≡ word_text w ++ rest
unfolding after
after_takes w bytes rest e = strip_takes (word_text w) bytes rest e

pub after_again : (w : Word) (rest : List ℕ) → after w (word_text w ++ rest) ≡ Some rest
unfolding after
after_again w rest = strip_again (word_text w) rest

module _ {B : Type 0} (w : Word) (g : Reader B) (T : List ℕ → B → Type 0) where
  word_taken : (bytes rest : List ℕ) → bytes ≡ word_text w ++ rest → (r : Option (B × List ℕ)) → Taken (λ b y. T (word_text w ++ b) y) rest r → Taken T bytes r
  word_taken bytes rest e None h = tt
  word_taken bytes rest e (Some y) (b, e2, s) = (word_text w ++ b, e ∙ ap (λ t. word_text w ++ t) e2 ∙ sym (append_assoc (word_text w) b y.1), s)

  by_word : (bytes : List ℕ) → Sound g (λ b y. T (word_text w ++ b) y) → (o : Option (List ℕ)) → after w bytes ≡ o → Taken T bytes (o >>= g)
  by_word bytes sound_g None e = tt
  by_word bytes sound_g (Some rest) e = word_taken bytes rest (after_takes w bytes rest e) (g rest) (sound_g.takes rest)

  pub sound_word : Sound g (λ b y. T (word_text w ++ b) y) → Sound (λ bytes. after w bytes >>= g) T
  sound_word sound_g = record { takes = λ bytes. by_word bytes sound_g (after w bytes) refl }

  by_choice : (bytes : List ℕ) → Sound g (λ b y. T (word_text w ++ b) y) → (other : Option (B × List ℕ)) → Taken T bytes other
      → (o : Option (List ℕ)) → after w bytes ≡ o → Taken T bytes (choose o g other)
  by_choice bytes sound_g other taken None e = taken
  by_choice bytes sound_g other taken (Some rest) e = word_taken bytes rest (after_takes w bytes rest e) (g rest) (sound_g.takes rest)

  -- what follows the word, or else the other way
  pub sound_choose : Sound g (λ b y. T (word_text w ++ b) y) → (q : Reader B) → Sound q T → Sound (λ bytes. choose (after w bytes) g (q bytes)) T
  sound_choose sound_g q sound_q = record { takes = λ bytes. by_choice bytes sound_g (q bytes) (sound_q.takes bytes) (after w bytes) refl }

-- ---- the ends

pub sound_pure : {A : Type 0} (x : A) (T : List ℕ → A → Type 0) → T [] x → Sound (λ bytes. Some (x, bytes)) T
sound_pure x T r = record { takes = λ bytes. ([], refl, r) }

pub sound_nothing : {A : Type 0} (T : List ℕ → A → Type 0) → Sound {A = A} (λ bytes. None) T
sound_nothing T = record { takes = λ bytes. tt }

-- a value that is known once the word has been read
module _ {B : Type 0} (w : Word) (x : B) (T : List ℕ → B → Type 0) (gives : T (word_text w) x) where
  ended : Sound (λ rest. Some (x, rest)) (λ b y. T (word_text w ++ b) y)
  ended = sound_pure x (λ b y. T (word_text w ++ b) y) (subst (λ c. T c x) (sym (append-nil (word_text w))) gives)

  pub sound_end : Sound (λ bytes. after w bytes >>= λ rest. Some (x, rest)) T
  sound_end = sound_word w (λ rest. Some (x, rest)) T ended

  pub sound_choose_end : (q : Reader B) → Sound q T → Sound (λ bytes. choose (after w bytes) (λ rest. Some (x, rest)) (q bytes)) T
  sound_choose_end = sound_choose w (λ rest. Some (x, rest)) T ended

module _ {A : Type 0} (p : Reader A) (R T : List ℕ → A → Type 0) (wider : (a : List ℕ) (x : A) → R a x → T a x) where
  taken_wider : (bytes : List ℕ) (r : Option (A × List ℕ)) → Taken R bytes r → Taken T bytes r
  taken_wider bytes None h = tt
  taken_wider bytes (Some x) (a, e, r) = (a, e, wider a x.0 r)

  pub sound_wider : Sound p R → Sound p T
  sound_wider sound_p = record { takes = λ bytes. taken_wider bytes (p bytes) (sound_p.takes bytes) }

-- a choice by a word that is not taken
module _ {A : Type 0} (w : Word) (p q : Reader A) (R : List ℕ → A → Type 0) where
  by_peek : (bytes : List ℕ) → Taken R bytes (p bytes) → Taken R bytes (q bytes) → (o : Option (List ℕ)) → Taken R bytes (choose o (λ rest. p bytes) (q bytes))
  by_peek bytes on_p on_q None = on_q
  by_peek bytes on_p on_q (Some rest) = on_p

  pub sound_peek : Sound p R → Sound q R → Sound (λ bytes. choose (after w bytes) (λ rest. p bytes) (q bytes)) R
  sound_peek sound_p sound_q = record { takes = λ bytes. by_peek bytes (sound_p.takes bytes) (sound_q.takes bytes) (after w bytes) }
