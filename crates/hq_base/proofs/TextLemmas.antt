-- What follows the front of a text.
use Rattle.std.proofs.Common.{◌≡◌, ◌≢◌, ℕ, List, [], ◌∷◌, ◌++◌, Bool, true, false, ◌==◌, ◌||◌, refl, subst, Some, None, if◌then◌else◌, eq-eqb}
use Rattle.std.proofs.lemmas.Bool.{eqb-true}
use Rattle.hq_base.specs.Text.{after, has_zero}

-- behind its front stands the rest
pub after-front : (front rest : List ℕ) → after front (front ++ rest) ≡ Some rest
after-front [] rest = refl
after-front (b ∷ front) rest = rw (eq-eqb b b refl) (after-front front rest)

-- nothing follows a front that the text does not begin with
pub after-none : (front text : List ℕ) → ((rest : List ℕ) → text ≢ front ++ rest) → after front text ≡ None
after-none [] text h = absurd (h text refl)
after-none (b ∷ front) [] h = refl
after-none (b ∷ front) (c ∷ text) h = (elim (b == c) as (λ t. (b == c) ≡ t → (if t then after front text else None) ≡ None) [
  | true ↦ λ e. after-none front text (λ rest g. h rest (cc (eqb-true b c e)))
  | false ↦ λ e. refl
]) refl

-- where neither holds, the second does not
or_false-right : (a b : Bool) → (a || b) ≡ false → b ≡ false
or_false-right true b h = cc
or_false-right false b h = h

-- a text behind a front has a zero byte only where the whole text has one
pub has_zero-after : (front text rest : List ℕ) → has_zero text ≡ false → after front text ≡ Some rest → has_zero rest ≡ false
has_zero-after [] text rest none h = let same : text ≡ rest = cc in subst (λ t. has_zero t ≡ false) same none
has_zero-after (b ∷ front) [] rest none h = cc
has_zero-after (b ∷ front) (c ∷ text) rest none h = (elim (b == c) as (λ t. (if t then after front text else None) ≡ Some rest → has_zero rest ≡ false) [
  | true ↦ λ e. has_zero-after front text rest (or_false-right _ _ none) e
  | false ↦ λ e. cc
]) h
