-- Lists one behind the other.
use Rattle.std.proofs.Common.{◌≡◌, ap, refl, List, [], ◌∷◌, ◌++◌}

-- nothing behind changes nothing
pub nothing_added : {A : Type 0} (xs : List A) → xs ++ [] ≡ xs
nothing_added [] = refl
nothing_added (x ∷ xs) = ap (λ ys. x ∷ ys) (nothing_added xs)
