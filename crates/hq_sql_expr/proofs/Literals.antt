-- Names and texts: what is read is spelled so, and what is spelled so is read.
use Rattle.std.proofs.Common.{◌≡◌, ℕ, eqb, eq-eqb, Bool, true, false, cond, List, [], ◌∷◌, ◌++◌, Option, Some, None, refl, sym, ap, ◌∙◌, append_assoc}
use Rattle.std.proofs.lemmas.Bool.{eqb-true}
use Rattle.hq_sql_tree.specs.declared.word.Word.TheVariants as word
use Rattle.hq_sql_tree.specs.Word.{word_text}
use Rattle.hq_sql_tree.specs.Form.{is_text}
use Rattle.hq_sql_tree.specs.Spelling.{doubled, quoted, literal_text}
use Rattle.hq_sql_expr.specs.Reading.{◌>>=◌, after, strip, unquoted, with_first, text_from, quoted_at, text_at}
use Rattle.hq_sql_expr.proofs.Sound.{Taken, Sound, Spelled, sound_next, sound_end, strip_takes, after_again}

-- the quote does not stand next
abbrev pub Free : ℕ → List ℕ → Type 0
Free q rest = strip (q ∷ []) rest ≡ None

-- a text and its closing quote
abbrev Closed : ℕ → List ℕ → List ℕ → Type 0
Closed q front t = front ≡ doubled q t ++ q ∷ []

first_taken : (q b : ℕ) (bytes : List ℕ) → eqb b q ≡ false → (r : Option (List ℕ × List ℕ)) → Taken (Closed q) bytes r → Taken (Closed q) (b ∷ bytes) (with_first b r)
first_taken q b bytes e None h = tt
first_taken q b bytes e (Some x) (front, is, r) = (b ∷ front, ap (λ t. b ∷ t) is, rw e (ap (λ t. b ∷ t) r))

twice_taken : (q b c : ℕ) (bytes : List ℕ) → b ≡ q → c ≡ q → (r : Option (List ℕ × List ℕ)) → Taken (Closed q) bytes r → Taken (Closed q) (b ∷ c ∷ bytes) (with_first q r)
twice_taken q b c bytes eb ec None h = tt
twice_taken q b c bytes eb ec (Some x) (front, is, r) = (q ∷ q ∷ front, rw (eb, ec) (ap (λ t. q ∷ q ∷ t) is), rw (eq-eqb q q refl) (ap (λ t. q ∷ q ∷ t) r))

last_taken : (q b : ℕ) (bytes : List ℕ) → b ≡ q → Taken (Closed q) (b ∷ bytes) (Some ([], bytes))
last_taken q b bytes e = (q ∷ [], ap (λ c. c ∷ bytes) e, refl)

unquoted_takes : (q : ℕ) (bytes : List ℕ) → Taken (Closed q) bytes (unquoted q bytes)
unfolding unquoted
unquoted_takes q [] = tt
unquoted_takes q (b ∷ []) = elim (eqb b q) as (λ t. eqb b q ≡ t → Taken (Closed q) (b ∷ []) (cond t (Some ([], [])) None)) [ true ↦ λ e. last_taken q b [] (eqb-true b q e) | false ↦ λ e. tt ] refl
unquoted_takes q (b ∷ c ∷ bytes) =
    elim (eqb b q) as (λ t. eqb b q ≡ t → Taken (Closed q) (b ∷ c ∷ bytes) (cond t (cond (eqb c q) (with_first q (unquoted q bytes)) (Some ([], c ∷ bytes))) (with_first b (unquoted q (c ∷ bytes))))) [
      | true ↦ λ eb. elim (eqb c q) as (λ t. eqb c q ≡ t → Taken (Closed q) (b ∷ c ∷ bytes) (cond t (with_first q (unquoted q bytes)) (Some ([], c ∷ bytes)))) [
        | true ↦ λ ec. twice_taken q b c bytes (eqb-true b q eb) (eqb-true c q ec) (unquoted q bytes) (unquoted_takes q bytes)
        | false ↦ λ ec. last_taken q b (c ∷ bytes) (eqb-true b q eb)
      ] refl
      | false ↦ λ eb. first_taken q b (c ∷ bytes) eb (unquoted q (c ∷ bytes)) (unquoted_takes q (c ∷ bytes))
    ] refl

unquoted_other : (q b : ℕ) (bytes : List ℕ) → eqb b q ≡ false → unquoted q (b ∷ bytes) ≡ with_first b (unquoted q bytes)
unfolding unquoted
unquoted_other q b [] e = rw e refl
unquoted_other q b (c ∷ bytes) e = rw e refl

free_is : (q c : ℕ) (bytes : List ℕ) → cond (eqb c q) (Some bytes) None ≡ None → eqb c q ≡ false
free_is q c bytes e = elim (eqb c q) as (λ t. eqb c q ≡ t → cond t (Some bytes) None ≡ None → eqb c q ≡ false) [ true ↦ λ k h. absurd cc | false ↦ λ k h. k ] refl e

unquoted_end : (q : ℕ) (rest : List ℕ) → Free q rest → unquoted q (q ∷ rest) ≡ Some ([], rest)
unfolding unquoted
unquoted_end q [] free = rw (eq-eqb q q refl) refl
unquoted_end q (c ∷ rest) free = rw (eq-eqb q q refl, free_is q c rest free) refl

unquoted_twice : (q : ℕ) (bytes : List ℕ) → unquoted q (q ∷ q ∷ bytes) ≡ with_first q (unquoted q bytes)
unfolding unquoted
unquoted_twice q bytes = rw (eq-eqb q q refl) refl

unquoted_again : (q : ℕ) (t rest : List ℕ) → Free q rest → unquoted q (doubled q t ++ (q ∷ rest)) ≡ Some (t, rest)
unquoted_again q [] rest free = unquoted_end q rest free
unquoted_again q (b ∷ t) rest free =
    elim (eqb b q) as (λ k. eqb b q ≡ k → unquoted q (cond k (q ∷ q ∷ doubled q t) (b ∷ doubled q t) ++ (q ∷ rest)) ≡ Some (b ∷ t, rest)) [
      | true ↦ λ e. unquoted_twice q (doubled q t ++ (q ∷ rest)) ∙ ap (with_first q) (unquoted_again q t rest free) ∙ ap (λ c. Some (c ∷ t, rest)) (sym (eqb-true b q e))
      | false ↦ λ e. unquoted_other q b (doubled q t ++ (q ∷ rest)) e ∙ ap (with_first b) (unquoted_again q t rest free)
    ] refl

-- ---- a quoted text

abbrev pub IsText : List ℕ → Type 0
IsText bytes = is_text bytes ≡ true

abbrev pub Quoted : ℕ → List ℕ → List ℕ → Type 0
Quoted q = Spelled (quoted q) IsText

text_taken : (q : ℕ) (bytes front rest t : List ℕ) → bytes ≡ front ++ rest → front ≡ quoted q t → (b : Bool) → is_text t ≡ b → Taken (Quoted q) bytes (cond b (Some t) None >>= λ v. Some (v, rest))
text_taken q bytes front rest t is r true e = (front, is, (r, e))
text_taken q bytes front rest t is r false e = tt

closed_taken : (q : ℕ) (bytes rest : List ℕ) → bytes ≡ q ∷ rest → (r : Option (List ℕ × List ℕ)) → Taken (Closed q) rest r → Taken (Quoted q) bytes (r >>= λ t. text_from t.0 >>= λ v. Some (v, t.1))
unfolding quoted text_from
closed_taken q bytes rest e None h = tt
closed_taken q bytes rest e (Some x) (front, is, r) = text_taken q bytes (q ∷ front) x.1 x.0 (e ∙ ap (λ t. q ∷ t) is) (ap (λ t. q ∷ t) r) (is_text x.0) refl

quote_taken : (q : ℕ) (bytes : List ℕ) (o : Option (List ℕ)) → strip (q ∷ []) bytes ≡ o → Taken (Quoted q) bytes (o >>= λ rest. unquoted q rest >>= λ t. text_from t.0 >>= λ v. Some (v, t.1))
quote_taken q bytes None e = tt
quote_taken q bytes (Some rest) e = closed_taken q bytes rest (strip_takes (q ∷ []) bytes rest e) (unquoted q rest) (unquoted_takes q rest)

pub quoted_takes : (q : ℕ) → Sound (quoted_at q) (Quoted q)
unfolding quoted_at
quoted_takes q = record { takes = λ bytes. quote_taken q bytes (strip (q ∷ []) bytes) refl }

pub quoted_again : (q : ℕ) (t rest : List ℕ) → is_text t ≡ true → Free q rest → quoted_at q (quoted q t ++ rest) ≡ Some (t, rest)
unfolding quoted_at quoted text_from
quoted_again q t rest is free = rw (append_assoc (doubled q t) (q ∷ []) rest, eq-eqb q q refl, unquoted_again q t rest free, is) refl

-- ---- a text literal

pub text_takes : Sound text_at (Spelled literal_text IsText)
unfolding text_at
text_takes =
    sound_next (quoted_at 39) (λ t bytes. after word.AsText bytes >>= λ rest. Some (t, rest)) (quoted 39) IsText (Spelled literal_text IsText) (quoted_takes 39)
    (λ t is. sound_end word.AsText t (λ b y. Spelled literal_text IsText (quoted 39 t ++ b) y) (refl, is))

pub literal_free : (rest : List ℕ) → Free 39 (word_text word.AsText ++ rest)
unfolding word_text
literal_free rest = refl

pub text_again : (t rest : List ℕ) → is_text t ≡ true → text_at (literal_text t ++ rest) ≡ Some (t, rest)
unfolding text_at
text_again t rest is = rw (append_assoc (quoted 39 t) (word_text word.AsText) rest, quoted_again 39 t (word_text word.AsText ++ rest) is (literal_free rest), after_again word.AsText rest) refl
