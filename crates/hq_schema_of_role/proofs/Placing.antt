-- Where the types of tables stand, one table after the other.
use Rattle.std.proofs.Common.{◌≡◌, refl, ap, ℕ, ◌+◌, List, [], ◌∷◌, ◌++◌}
use Rattle.hq_schema_of_role.specs.Placed.{part_count, placed_from}
use Rattle.hq_schema_of_role.specs.declared.shown.ShownTable.{ShownTable}

-- the place behind the types of tables
abbrev pub count_of : (first : ℕ) → List ShownTable → ℕ
count_of first [] = first
count_of first (t ∷ ts) = count_of (first + part_count t) ts

-- one more table stands there
pub placed_more : (first : ℕ) (ts : List ShownTable) (t : ShownTable) → placed_from first (ts ++ t ∷ []) ≡ placed_from first ts ++ record { shown = t; first = count_of first ts } ∷ []
placed_more first [] t = refl
placed_more first (u ∷ us) t = ap (λ ps. record { shown = u; first = first } ∷ ps) (placed_more (first + part_count u) us t)

pub count_more : (first : ℕ) (ts : List ShownTable) (t : ShownTable) → count_of first (ts ++ t ∷ []) ≡ count_of first ts + part_count t
count_more first [] t = refl
count_more first (u ∷ us) t = count_more (first + part_count u) us t
