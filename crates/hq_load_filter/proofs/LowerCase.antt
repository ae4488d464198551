-- Lower case brings no zero byte.
use Rattle.std.proofs.Common.{◌≡◌, refl, ℕ, List, [], ◌∷◌, arith}
use Rattle.std.specs.Prelude.{nat_eq}
use Rattle.std.specs.Char.{to_ascii_lowercase}
use Rattle.std.specs.Str.{str_to_ascii_lowercase}
use Rattle.std.proofs.lemmas.Bool.Decides.{nat_tests}
use Rattle.hq_base.specs.Text.{has_zero}

-- a byte is zero exactly where its lower case is
zero-lower : (c : ℕ) → nat_eq (to_ascii_lowercase c) 0 ≡ nat_eq c 0
zero-lower c = grind (arith, nat_tests)

-- a text has a zero byte exactly where it has one in lower case
pub has_zero-lower : (s : List ℕ) → has_zero (str_to_ascii_lowercase s) ≡ has_zero s
has_zero-lower [] = refl
has_zero-lower (c ∷ cs) = rw (zero-lower c, has_zero-lower cs) refl
