-- The rows behind a relationship (Hasura, Queries: nested object queries).
use Rattle.std.specs.Prelude.{ℕ, List, filter, Option, slice_get}
use Rattle.hq_model.specs.Schema.{Schema, rel}
use Rattle.hq_model.specs.Seen.{Sees}

-- an array relationship gives the rows of the remote table that count and are linked to the row, in their order
abbrev pub related : {R : Type 0} → Schema → Sees R → ℕ → ℕ → R → List R
related s S t r x = filter (S.linked t r x) (S.rows (rel s t r).remote)

-- an object relationship gives the first of them, or nothing
abbrev pub related_first : {R : Type 0} → Schema → Sees R → ℕ → ℕ → R → Option R
related_first s S t r x = slice_get (related s S t r x) 0
