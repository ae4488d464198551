-- Truths of a condition at rows where others were true before, and of an EXISTS whose FROM gives these rows.
use Rattle.std.specs.Prelude.{ℕ, List, [], ◌∷◌, Bool, ◌&&◌, map, filter, flat_map}
use Rattle.hq_sql_tree.specs.Meaning.{NamedRow, Scope as Names, World, with_alias, joined, kept}
use Rattle.hq_sql_tree.specs.Tree.{FilterTree, JoinTrees}
use Rattle.hq_sql_access.specs.Sources.{has_items}

-- both true, row by row
abbrev pub narrowed : List Bool → List Bool → List Bool
narrowed (b ∷ bs) (t ∷ ts) = (b && t) ∷ narrowed bs ts
narrowed (b ∷ bs) [] = []
narrowed [] ts = []

-- whether WHERE keeps one of these rows of an alias with its joins
abbrev pub keeps_one : List NamedRow → (alias : List ℕ) → JoinTrees → FilterTree → World → Names → Bool
keeps_one rows alias js f w n = has_items (filter (kept f w) (flat_map (joined js w) (map (with_alias n alias) rows)))
