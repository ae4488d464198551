-- A byte so many times.
use Rattle.std.proofs.Common.{◌≡◌, ◌≤◌, ◌<◌, ◌+◌, ◌-◌, ℕ, [], ◌∷◌, suc, ap, arith}
use Rattle.std.specs.Prelude.{replicate}

-- all of them, the next one, and no one more
pub repeated_all : (count byte : ℕ) → replicate (count - 0) byte ≡ replicate count byte
repeated_all count byte = ap (λ n. replicate n byte) (omega arith)

pub repeated_next : (count done byte : ℕ) → done < count → byte ∷ replicate (count - (done + 1)) byte ≡ replicate (count - done) byte
repeated_next count done byte h =
    let e : suc (count - (done + 1)) ≡ count - done = omega arith in ap (λ n. replicate n byte) e

pub repeated_none : (count done byte : ℕ) → count ≤ done → [] ≡ replicate (count - done) byte
repeated_none count done byte h =
    let e : 0 ≡ count - done = omega arith in ap (λ n. replicate n byte) e
