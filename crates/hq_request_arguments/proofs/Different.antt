-- The first items of a list of numbers.
use Rattle.std.proofs.Common.{◌≡◌, ℕ, Bool, true, ◌==◌, arith}
use Rattle.std.proofs.lemmas.Grind.{common_steps}

abbrev pub same : ℕ → ℕ → Bool
same c d = c == d

-- equal numbers are one
pub one_number : (c d : ℕ) → same c d ≡ true → c ≡ d
one_number c d e = grind (arith, common_steps)
