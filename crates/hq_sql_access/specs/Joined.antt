-- Rows of joins, of which some are put off.
use Rattle.std.specs.Prelude.{ℕ, zero, suc, List, [], ◌∷◌, Option, Some, None}
use Rattle.hq_sql_tree.specs.Tree.{JoinTree, JoinTrees, join}
use Rattle.hq_sql_tree.specs.Meaning.{NamedRow}

-- one more join in front, which is put off
abbrev pub put_off : List (Option NamedRow) → List (Option NamedRow)
put_off [] = []
put_off (r ∷ rs) = None ∷ (r ∷ rs)

-- the row of the join of this number, where it has one already
abbrev pub joined_at : List (Option NamedRow) → ℕ → Option NamedRow
joined_at [] at = None
joined_at (r ∷ rs) zero = r
joined_at (r ∷ rs) (suc at) = joined_at rs at

-- with a row for the join of this number, those before it being put off where they have none yet
abbrev pub put_joined : List (Option NamedRow) → ℕ → NamedRow → List (Option NamedRow)
put_joined [] zero row = Some row ∷ []
put_joined [] (suc at) row = None ∷ put_joined [] at row
put_joined (r ∷ rs) zero row = Some row ∷ rs
put_joined (r ∷ rs) (suc at) row = r ∷ put_joined rs at row

-- a join in front of others
abbrev pub join_in : JoinTree → JoinTrees → JoinTrees
join_in j js = join j.select j.alias js
