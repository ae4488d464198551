-- Sort keys at the front that are all among the expressions of DISTINCT ON.
use Rattle.std.specs.Prelude.{ℕ, suc, List, [], ◌∷◌, map, if◌then◌else◌}
use Rattle.hq_sql_tree.specs.Tree.{ExprTree, OrderTree}
use Rattle.hq_sql_tree.specs.WellFormed.{is_among}

abbrev pub key_values : List OrderTree → List ExprTree
key_values keys = map (λ k. k.value) keys

-- how many keys at the front are all among these expressions
abbrev pub front_among : List ExprTree → List OrderTree → ℕ
front_among exprs [] = 0
front_among exprs (k ∷ ks) = if is_among exprs k.value then suc (front_among exprs ks) else 0
