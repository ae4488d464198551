-- A loop that goes over a text step by step.
use Rattle.std.proofs.Common.{true, ◌≡◌, ℕ, zero, suc, ◌+◌, ◌-◌, ◌<◌, ◌≤◌, List, [], ◌∷◌, ◌++◌, length, drop, Result, Ok, Err, refl, sym, ap, ◌∙◌, append_assoc, arith, subst}
use Rattle.std.specs.Prelude.{slice_range}
use Rattle.std.proofs.lemmas.List.{drop_all, drop-drop, append-nil, length-drop}
use Rattle.std.proofs.lemmas.Slice.{between_to_end}
use Rattle.hq_gql_lexer.specs.declared.refusal.LexRefusal.{LexRefusal}
use Rattle.std.specs.List.{list_all}
use Rattle.hq_gql_lexer.proofs.CharacterLemmas.{is_high}
use Rattle.hq_gql_lexer.proofs.TextLemmas.{and_parts}
use Rattle.hq_base.specs.Due.{◌>>=◌}
use Rattle.hq_gql_lexer.specs.Steps.{Step, steps}

-- what is there already, and what is still to come
abbrev pub with_front : {X : Type 0} → List X → Result (List X) LexRefusal → Result (List X) LexRefusal
with_front front more = more >>= λ xs. Ok (front ++ xs)

-- two pieces one behind the other are one
with_front_twice : {X : Type 0} (front piece : List X) (more : Result (List X) LexRefusal) → with_front front (with_front piece more) ≡ with_front (front ++ piece) more
with_front_twice front piece (Ok xs) = ap Ok (sym (append_assoc front piece xs))
with_front_twice front piece (Err e) = refl

-- bytes that are taken already are passed over
pub steps_skip : {X : Type 0} (step : Step (List X)) (k at : ℕ) (bytes : List ℕ) → k ≤ length bytes → steps step k at bytes ≡ steps step 0 (at + k) (drop k bytes)
steps_skip step zero at bytes h = ap (λ n. steps step 0 n bytes) (omega arith)
steps_skip step (suc k) at [] h = absurd (omega arith)
steps_skip step (suc k) at (b ∷ bytes) h =
    steps_skip step k (at + 1) bytes (omega arith) ∙ ap (λ n. steps step 0 n (drop k bytes)) (omega arith)

-- the bytes behind the first one are passed over like any others
pub steps_from : {X : Type 0} (step : Step (List X)) (n at : ℕ) (b : ℕ) (bytes : List ℕ) → 0 < n → n ≤ length (b ∷ bytes)
    → steps step (n - 1) (at + 1) bytes ≡ steps step 0 (at + n) (drop n (b ∷ bytes))
steps_from step zero at b bytes some h = absurd (omega arith)
steps_from step (suc n) at b bytes some h =
    ap (λ k. steps step k (at + 1) bytes) (omega arith) ∙ steps_skip step n (at + 1) bytes (omega arith) ∙ ap (λ k. steps step 0 k (drop n bytes)) (omega arith)

-- one step: its piece stands before what comes
pub steps_one : {X : Type 0} (step : Step (List X)) (at : ℕ) (bytes : List ℕ) (piece : List X) (n : ℕ)
    → step at bytes ≡ Ok (piece, n) → 0 < n → n ≤ length bytes
    → steps step 0 at bytes ≡ with_front piece (steps step 0 (at + n) (drop n bytes))
steps_one step at [] piece n e some h = absurd (omega arith)
steps_one step at (b ∷ bytes) piece n e some h = rw e (ap (with_front piece) (steps_from step n at b bytes some h))

-- two steps on from a place
here : {X : Type 0} (step : Step (List X)) (at done n : ℕ) (text : List ℕ) → steps step 0 (at + (done + n)) (drop (done + n) text) ≡ steps step 0 (at + done + n) (drop n (drop done text))
here step at done n text = rw drop-drop (ap (λ k. steps step 0 k (drop (done + n) text)) (omega arith))

-- a loop's turn at the rest of the text
turn : {X : Type 0} (step : Step (List X)) (at done n : ℕ) (text : List ℕ) (front piece : List X) (all : Result (List X) LexRefusal)
    → with_front front (steps step 0 (at + done) (drop done text)) ≡ all
    → step (at + done) (drop done text) ≡ Ok (piece, n) → 0 < n → n ≤ length (drop done text)
    → with_front (front ++ piece) (steps step 0 (at + (done + n)) (drop (done + n) text)) ≡ all
turn step at done n text front piece all so_far e some h =
    sym (with_front_twice front piece _)
    ∙ ap (with_front front) (ap (with_front piece) (here step at done n text) ∙ sym (steps_one step (at + done) (drop done text) piece n e some h))
    ∙ so_far

-- what a loop has before and after a turn: the steps are within the text, and what is made so far stands before what comes
pub record IsMade {X : Type 0} (step : Step (List X)) (at done : ℕ) (text : List ℕ) (front : List X) : Type 0 where
  pub within : done ≤ length text
  pub so_far : with_front front (steps step 0 (at + done) (drop done text)) ≡ steps step 0 at text

-- a turn at the rest of the text, as a slice has it
pub made_more : {X : Type 0} (step : Step (List X)) (at done n : ℕ) (text : List ℕ) (front piece : List X)
    → IsMade step at done text front
    → step (at + done) (slice_range text done (length text)) ≡ Ok (piece, n) → 0 < n → n ≤ length (slice_range text done (length text))
    → IsMade step at (done + n) text (front ++ piece)
made_more step at done n text front piece made e some h =
    let rest = between_to_end text done (length text) (omega arith) in
    let e' : step (at + done) (drop done text) ≡ Ok (piece, n) = subst (λ bytes. step (at + done) bytes ≡ Ok (piece, n)) rest e in
    let h' : n ≤ length (drop done text) = subst (λ bytes. n ≤ length bytes) rest h in
    record {
      within = omega (arith, h', length-drop done text, made.within);
      so_far = turn step at done n text front piece _ made.so_far e' some h';
    }

-- a loop's end at a refusal
pub steps_stop : {X : Type 0} (step : Step (List X)) (at : ℕ) (bytes : List ℕ) (front : List X) (all : Result (List X) LexRefusal) (e : LexRefusal)
    → 0 < length bytes → with_front front (steps step 0 at bytes) ≡ all → step at bytes ≡ Err e → all ≡ Err e
steps_stop step at [] front all e some so_far stops = absurd (omega arith)
steps_stop step at (b ∷ bytes) front all e some so_far stops = sym so_far ∙ rw stops refl

-- a loop's end at the text's end
pub steps_end : {X : Type 0} (step : Step (List X)) (at done : ℕ) (text : List ℕ) (front : List X) (all : Result (List X) LexRefusal)
    → length text ≤ done → with_front front (steps step 0 (at + done) (drop done text)) ≡ all → all ≡ Ok front
steps_end step at done text front all past so_far =
    sym so_far ∙ ap (λ rest. with_front front (steps step 0 (at + done) rest)) (drop_all done text past) ∙ ap Ok (append-nil front)

-- the first step of those that have made something
pub record IsFirstStep {X : Type 0} (step : Step (List X)) (at b : ℕ) (bytes : List ℕ) (all : List X) : Type 0 where
  pub piece : List X
  pub n : ℕ
  pub others : List X
  pub first : step at (b ∷ bytes) ≡ Ok (piece, n)
  pub behind : steps step (n - 1) (at + 1) bytes ≡ Ok others
  pub whole : piece ++ others ≡ all

-- two steps in a row that give a value each gave one
pub bind_ok : {A B : Type 0} {P : Type 0} (r : Result A LexRefusal) (f : A → Result B LexRefusal) (y : B) → (r >>= f) ≡ Ok y → ((x : A) → r ≡ Ok x → f x ≡ Ok y → P) → P
bind_ok (Ok x) f y h k = k x refl h
bind_ok (Err e) f y h k = cc

-- steps that give a value begin with one that does
pub steps_first : {X : Type 0} (step : Step (List X)) (at b : ℕ) (bytes : List ℕ) (all : List X) → steps step 0 at (b ∷ bytes) ≡ Ok all → IsFirstStep step at b bytes all
steps_first step at b bytes all h =
    bind_ok (step at (b ∷ bytes)) _ all h (λ x first more.
    bind_ok (steps step (x.1 - 1) (at + 1) bytes) _ all more (λ others behind whole.
    let same : x.0 ++ others ≡ all = cc in
    record { piece = x.0; n = x.1; others = others; first = first; behind = behind; whole = same }))

-- an empty front adds nothing
with_no_front : {X : Type 0} (more : Result (List X) LexRefusal) → more ≡ with_front [] more
with_no_front (Ok xs) = refl
with_no_front (Err e) = refl

-- a step that copies the bytes of wide characters
abbrev pub Copies : Step (List ℕ) → Type 0
Copies step = (at b : ℕ) (bytes : List ℕ) → is_high b ≡ true → step at (b ∷ bytes) ≡ Ok (b ∷ [], 1)

-- a front of such bytes is copied
pub copy_all : (step : Step (List ℕ)) → Copies step → (at : ℕ) (front bytes : List ℕ) → list_all is_high front ≡ true
    → steps step 0 at (front ++ bytes) ≡ with_front front (steps step 0 (at + length front) bytes)
copy_all step copies at [] bytes h = ap (λ k. steps step 0 k bytes) (omega arith) ∙ with_no_front (steps step 0 (at + 0) bytes)
copy_all step copies at (b ∷ front) bytes h =
    let ok = and_parts (is_high b) (list_all is_high front) h in
    let first = copies at b (front ++ bytes) ok.0 in
    steps_one step at (b ∷ (front ++ bytes)) (b ∷ []) 1 first (omega arith) (omega arith)
    ∙ ap (with_front (b ∷ [])) (copy_all step copies (at + 1) front bytes ok.1)
    ∙ with_front_twice (b ∷ []) front (steps step 0 (at + 1 + length front) bytes)
    ∙ ap (λ k. with_front (b ∷ front) (steps step 0 k bytes)) (omega arith)

-- what is made of a front that is copied, and of the rest
pub record IsCopied (step : Step (List ℕ)) (at : ℕ) (front bytes all : List ℕ) : Type 0 where
  pub others : List ℕ
  pub behind : steps step 0 (at + length front) bytes ≡ Ok others
  pub whole : front ++ others ≡ all

-- what is made of a text with such a front
pub copied : (step : Step (List ℕ)) → Copies step → (at : ℕ) (front bytes all : List ℕ) → list_all is_high front ≡ true
    → steps step 0 at (front ++ bytes) ≡ Ok all → IsCopied step at front bytes all
copied step copies at front bytes all h e =
    bind_ok (steps step 0 (at + length front) bytes) _ all (sym (copy_all step copies at front bytes h) ∙ e) (λ others behind whole.
    let same : front ++ others ≡ all = cc in
    record { others = others; behind = behind; whole = same })
