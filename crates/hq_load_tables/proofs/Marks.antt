-- A text with or without a mark of the order of its bytes.
use Rattle.std.proofs.Common.{◌≡◌, ◌≤◌, ◌<◌, ◌-◌, ◌∙◌, ℕ, List, [], ◌∷◌, true, false, length, take, drop, get_or, refl, sym, arith}
use Rattle.std.specs.Prelude.{Bool, if◌then◌else◌}
use Rattle.std.proofs.lemmas.List.{take_all}
use Rattle.csv.specs.Reading.{is_bom, strip_bom}

choose : (b : Bool) (xs ys : List ℕ) → b ≡ true → (if b then xs else ys) ≡ xs
choose true xs ys e = refl
choose false xs ys e = absurd cc

other : (b : Bool) (xs ys : List ℕ) → b ≡ false → (if b then xs else ys) ≡ ys
other false xs ys e = refl
other true xs ys e = absurd cc

-- a mark goes
pub marked : (xs : List ℕ) → 3 ≤ length xs → is_bom (get_or xs 0 0) (get_or xs 1 0) (get_or xs 2 0) ≡ true → take (length xs - 3) (drop 3 xs) ≡ strip_bom xs
unfolding strip_bom
marked [] h m = absurd (omega (arith, h))
marked (x ∷ []) h m = absurd (omega (arith, h))
marked (x ∷ y ∷ []) h m = absurd (omega (arith, h))
marked (x ∷ y ∷ z ∷ rest) h m =
    take_all (length (x ∷ y ∷ z ∷ rest) - 3) rest (omega arith) ∙ sym (choose (is_bom x y z) rest (x ∷ y ∷ z ∷ rest) m)

-- all else stays
pub unmarked : (xs : List ℕ) → 3 ≤ length xs → is_bom (get_or xs 0 0) (get_or xs 1 0) (get_or xs 2 0) ≡ false → xs ≡ strip_bom xs
unfolding strip_bom
unmarked [] h m = absurd (omega (arith, h))
unmarked (x ∷ []) h m = absurd (omega (arith, h))
unmarked (x ∷ y ∷ []) h m = absurd (omega (arith, h))
unmarked (x ∷ y ∷ z ∷ rest) h m = sym (other (is_bom x y z) rest (x ∷ y ∷ z ∷ rest) m)

pub short : (xs : List ℕ) → length xs < 3 → xs ≡ strip_bom xs
unfolding strip_bom
short [] h = refl
short (x ∷ []) h = refl
short (x ∷ y ∷ []) h = refl
short (x ∷ y ∷ z ∷ rest) h = absurd (omega (arith, h))
