-- A number does not fall as digits follow.
use Rattle.std.proofs.Common.{◌≤◌, ◌+◌, ◌*◌, ◌-◌, ℕ, List, [], ◌∷◌, arith}
use Rattle.hq_http_request.specs.Requests.{number}

pub number_grows : (sum : ℕ) (bs : List ℕ) → sum ≤ number sum bs
number_grows sum [] = omega arith
number_grows sum (b ∷ bs) = omega (arith, number_grows (sum * 10 + (b - 48)) bs)
