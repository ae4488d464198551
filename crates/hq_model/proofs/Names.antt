-- Names that are equal byte by byte are equal.
use Rattle.std.proofs.Common.{◌≡◌, ℕ, List, true, bytes_eq}
use Rattle.std.proofs.lemmas.Slice.Eq.{bytes_eq-Decides}

pub names_equal : (x y : List ℕ) → bytes_eq x y ≡ true → x ≡ y
names_equal x y e = (bytes_eq-Decides x y).0 e
