-- What is shown of bytes, byte by byte.
use Rattle.std.proofs.Common.{◌≡◌, ◌≤◌, ◌<◌, ◌-◌, ◌∙◌, ℕ, List, [], ◌∷◌, true, false, length, take, drop, get_or, refl, sym, ap, arith}
use Rattle.std.specs.Prelude.{Bool, codes, if◌then◌else◌}
use Rattle.std.proofs.lemmas.List.{take_all}
use Rattle.hq_explain_places.specs.Words.{is_cut, shown, shown_byte}

-- one of two texts, by a test
pub chosen : (b : Bool) (xs ys : List ℕ) → b ≡ true → (if b then xs else ys) ≡ xs
chosen true xs ys e = refl
chosen false xs ys e = absurd cc

pub not_chosen : (b : Bool) (xs ys : List ℕ) → b ≡ false → (if b then xs else ys) ≡ ys
not_chosen false xs ys e = refl
not_chosen true xs ys e = absurd cc

-- where bytes are cut
pub shown_cut : (most : ℕ) (rest : List ℕ) → 1 ≤ length rest → is_cut most (get_or rest 0 0) ≡ true → shown most rest ≡ codes ".."
shown_cut most [] h e = absurd (omega (arith, h))
shown_cut most (b ∷ bs) h e = chosen (is_cut most b) (codes "..") (shown_byte b ∷ shown (most - 1) bs) e

-- and where not
pub shown_on : (most : ℕ) (rest : List ℕ) → 1 ≤ length rest → is_cut most (get_or rest 0 0) ≡ false
    → shown most rest ≡ shown_byte (get_or rest 0 0) ∷ shown (most - 1) (take (length rest - 1) (drop 1 rest))
shown_on most [] h e = absurd (omega (arith, h))
shown_on most (b ∷ bs) h e =
    not_chosen (is_cut most b) (codes "..") (shown_byte b ∷ shown (most - 1) bs) e
    ∙ ap (λ later. shown_byte b ∷ shown (most - 1) later) (sym (take_all (length (b ∷ bs) - 1) bs (omega arith)))

pub shown_next : (most : ℕ) (rest : List ℕ) (byte left : ℕ) → 1 ≤ length rest → is_cut most (get_or rest 0 0) ≡ false
    → byte ≡ shown_byte (get_or rest 0 0) → left ≡ most - 1 → byte ∷ shown left (take (length rest - 1) (drop 1 rest)) ≡ shown most rest
shown_next most rest byte left h e is less =
    ap (λ b. b ∷ shown left (take (length rest - 1) (drop 1 rest))) is
    ∙ (ap (λ n. shown_byte (get_or rest 0 0) ∷ shown n (take (length rest - 1) (drop 1 rest))) less ∙ sym (shown_on most rest h e))

-- no byte is shown as nothing
pub shown_none : (most : ℕ) (rest : List ℕ) → length rest < 1 → shown most rest ≡ []
shown_none most [] h = refl
shown_none most (b ∷ bs) h = absurd (omega (arith, h))
