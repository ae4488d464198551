-- The most rows of a list, by permissions alone (Hasura, Authorization: row fetch limit).
use Rattle.std.specs.Prelude.{ℕ, List, [], ◌∷◌, Option, Some, None, option_map}
use Rattle.hq_model.specs.Meta.{TrackedTree}
use Rattle.hq_model.specs.Permission.{Permission, larger, own_permission}
use Rattle.hq_model_limits.specs.declared.own.Limit.{Limit}

-- the limit of a permission, where there is one
abbrev pub limit_under : Option Permission → Option (Option ℕ)
limit_under o = option_map (λ p. p.limit) o

-- what a limit is seen as
abbrev pub rows_of : Option Limit → Option (Option ℕ)
rows_of o = option_map (λ l. l.rows) o

-- the limit of two together: the larger one, and that of one where the other sees nothing
abbrev pub together : Option (Option ℕ) → Option (Option ℕ) → Option (Option ℕ)
together None b = b
together (Some a) None = Some a
together (Some a) (Some b) = Some (larger a b)

-- that of the roles of these names
abbrev pub limits_of : TrackedTree → List (List ℕ) → Option (Option ℕ)
limits_of k [] = None
limits_of k (r ∷ rs) = together (limit_under (own_permission k r)) (limits_of k rs)
