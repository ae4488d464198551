-- Sort keys, as a list and as the tree of them that json_agg holds.
use Rattle.std.proofs.Common.{◌≡◌, List, [], ◌∷◌, ◌&&◌, refl, ap}
use Rattle.std.specs.List.{list_all}
use Rattle.hq_sql_tree.specs.Tree.{OrderTree, orders_of}
use Rattle.hq_sql_tree.specs.WellFormed.{Aliases, is_compared, are_keys}

-- the keys of the tree are tested one after the other
pub keys_tested : (scope : Aliases) (os : List OrderTree) → are_keys scope (orders_of os) ≡ list_all (λ k. is_compared scope k.value) os
keys_tested scope [] = refl
keys_tested scope (o ∷ os) = ap (λ b. is_compared scope o.value && b) (keys_tested scope os)
