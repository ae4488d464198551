-- Blanks at the ends of a text.
use Rattle.std.proofs.Common.{◌≡◌, ◌≢◌, ◌<◌, ℕ, suc, List, [], ◌∷◌, ◌++◌, length, reverse, Bool, true, false, cond, ◌||◌, ◌==◌, nat_eq, Bor, Option, Some, None, MatchOption, refl, sym, ap, subst, ◌∙◌, arith}
use Rattle.std.proofs.lemmas.Bool.{eqb-true}
use Rattle.std.proofs.lemmas.List.{reverse-append, length-reverse}
use Rattle.std.proofs.lemmas.List.Folds.{list_any-append}
use Rattle.hq_base.specs.Text.{has_zero}
use Rattle.hq_session.specs.Fields.{is_blank, behind_blank, behind_blanks}

-- a text that begins with neither a space nor a tab begins with no blank
no_blank : (text : List ℕ) → ((rest : List ℕ) → text ≢ 32 ∷ rest) → ((rest : List ℕ) → text ≢ 9 ∷ rest) → behind_blank text ≡ None
no_blank [] space tab = refl
no_blank (b ∷ bs) space tab =
    let last : (q : Bool) → (b == 9) ≡ q → cond q (Some bs) None ≡ None =
    elim [ true ↦ λ e. absurd (tab bs (ap (λ c. c ∷ bs) (eqb-true b 9 e))) | false ↦ λ e. refl ] in
    let first : (q : Bool) → (b == 32) ≡ q → cond (q || (b == 9)) (Some bs) None ≡ None =
    elim [ true ↦ λ e. absurd (space bs (ap (λ c. c ∷ bs) (eqb-true b 32 e))) | false ↦ λ e. last (b == 9) refl ] in
    first (b == 32) refl

-- without a space at its front, a text begins with a tab or with no blank
pub tab_or_none : (text : List ℕ) (r : Option (Bor (List ℕ))) → ((rest : List ℕ) → text ≢ 32 ∷ rest) → MatchOption r ((rest : List ℕ) → text ≢ 9 ∷ rest) (λ x. text ≡ 9 ∷ x.now)
    → MatchOption r (behind_blank text ≡ None) (λ x. behind_blank text ≡ Some x.now)
tab_or_none text None space tab = no_blank text space tab
tab_or_none text (Some x) space tab = rw tab refl

reverse_twice : (xs : List ℕ) → reverse (reverse xs) ≡ xs
reverse_twice [] = refl
reverse_twice (x ∷ xs) = ap reverse (reverse-append (x ∷ []) xs) ∙ (reverse-append (reverse xs) (x ∷ []) ∙ ap (λ ys. x ∷ ys) (reverse_twice xs))

reversed : (text front : List ℕ) (c : ℕ) → text ≡ front ++ c ∷ [] → reverse text ≡ c ∷ reverse front
reversed text front c e = ap reverse e ∙ reverse-append front (c ∷ [])

not_behind : (text : List ℕ) (c : ℕ) → ((front : List ℕ) → text ≢ front ++ c ∷ []) → (rest : List ℕ) → reverse text ≢ c ∷ rest
not_behind text c h rest e = h (reverse rest) (sym (reverse_twice text) ∙ (ap reverse e ∙ reverse-append (c ∷ []) rest))

-- the same at a text's end
pub space_at_end : (text : List ℕ) (x : List ℕ) → text ≡ x ++ 32 ∷ [] → behind_blank (reverse text) ≡ Some (reverse x)
space_at_end text x e = rw (reversed text x 32 e) refl

pub tab_or_none_at_end : (text : List ℕ) (r : Option (Bor (List ℕ))) → ((front : List ℕ) → text ≢ front ++ 32 ∷ [])
    → MatchOption r ((front : List ℕ) → text ≢ front ++ 9 ∷ []) (λ x. text ≡ x.now ++ 9 ∷ [])
    → MatchOption r (behind_blank (reverse text) ≡ None) (λ x. behind_blank (reverse text) ≡ Some (reverse x.now))
tab_or_none_at_end text None space tab = no_blank (reverse text) (not_behind text 32 space) (not_behind text 9 tab)
tab_or_none_at_end text (Some x) space tab = rw (reversed text x.now 9 tab) refl

-- ---- one blank after the other

clean_rest : (b : ℕ) (bs : List ℕ) → has_zero (b ∷ bs) ≡ false → has_zero bs ≡ false
clean_rest b bs h =
    let go : (q : Bool) → (q || has_zero bs) ≡ false → has_zero bs ≡ false = elim [ true ↦ λ g. absurd cc | false ↦ λ g. g ] in
    go (nat_eq b 0) h

-- what stands behind a blank
pub record Behind (text rest : List ℕ) : Type 0 where
  pub blanks : behind_blanks text ≡ behind_blanks rest
  pub shorter : length rest < length text
  pub clean : has_zero text ≡ false → has_zero rest ≡ false

behind_one : (b : ℕ) (bs rest : List ℕ) (q : Bool) → is_blank b ≡ q → cond q (Some bs) None ≡ Some rest → Behind (b ∷ bs) rest
behind_one b bs rest true e h =
    let same : bs ≡ rest = cc in
    record {
      blanks = rw e (ap behind_blanks same);
      shorter = subst (λ xs. length xs < suc (length bs)) same (omega arith);
      clean = λ z. subst (λ xs. has_zero xs ≡ false) same (clean_rest b bs z);
    }
behind_one b bs rest false e h = absurd cc

pub blank_taken : (text rest : List ℕ) → behind_blank text ≡ Some rest → Behind text rest
blank_taken [] rest h = absurd cc
blank_taken (b ∷ bs) rest h = behind_one b bs rest (is_blank b) refl h

-- a text that begins with no blank is what follows its blanks
pub no_more_blanks : (text : List ℕ) → behind_blank text ≡ None → behind_blanks text ≡ text
no_more_blanks [] h = refl
no_more_blanks (b ∷ bs) h =
    let go : (q : Bool) → cond q (Some bs) None ≡ None → cond q (behind_blanks bs) (b ∷ bs) ≡ b ∷ bs =
    elim [ true ↦ λ g. absurd cc | false ↦ λ g. refl ] in
    go (is_blank b) h

-- a text turned round has a zero byte where the text has one
pub clean_reverse : (xs : List ℕ) → has_zero xs ≡ false → has_zero (reverse xs) ≡ false
clean_reverse [] h = refl
clean_reverse (x ∷ xs) h =
    let go : (q : Bool) → (q || has_zero xs) ≡ false → (has_zero (reverse xs) || (q || false)) ≡ false = elim [ true ↦ λ g. absurd cc | false ↦ λ g. rw (clean_reverse xs g) refl ] in
    ap has_zero (reverse-append (x ∷ []) xs) ∙ (list_any-append (λ b. nat_eq b 0) (reverse xs) (x ∷ []) ∙ go (nat_eq x 0) h)

pub clean_turned : (xs : List ℕ) → has_zero (reverse xs) ≡ false → has_zero xs ≡ false
clean_turned xs h = subst (λ ys. has_zero ys ≡ false) (reverse_twice xs) (clean_reverse (reverse xs) h)

-- the same for the blanks at a text's end
pub blank_taken_at_end : (text rest : List ℕ) → behind_blank (reverse text) ≡ Some (reverse rest)
    → (behind_blanks (reverse text) ≡ behind_blanks (reverse rest)) × (length rest < length text)
    × (has_zero text ≡ false → has_zero rest ≡ false)
blank_taken_at_end text rest h =
    let behind = blank_taken (reverse text) (reverse rest) h in
    (behind.blanks, omega (arith, behind.shorter, length-reverse text, length-reverse rest), λ z. clean_turned rest (behind.clean (clean_reverse text z)))

pub no_more_blanks_at_end : (text : List ℕ) → behind_blank (reverse text) ≡ None → reverse (behind_blanks (reverse text)) ≡ text
no_more_blanks_at_end text h = ap reverse (no_more_blanks (reverse text) h) ∙ reverse_twice text
