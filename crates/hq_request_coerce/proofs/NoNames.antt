-- No name stands in an empty map.
use Rattle.std.proofs.Common.{◌≡◌, ℕ, List, [], false, refl}
use Rattle.std.specs.Borrow.{Bor}
use Rattle.std.specs.HashMap.{HashMap}
use Rattle.hq_gql_nodes.specs.Names.{has_name}

pub none_noted : {V S : Type 0} (m : HashMap (Bor (List ℕ)) V S) (q : List ℕ) → m.entries ≡ [] → has_name m q ≡ false
none_noted m q e = rw e refl
