-- Aliases and the names of outputs: a letter and a number.
use Rattle.std.specs.Prelude.{ℕ, List, ◌∷◌, decimal, codes}

-- the rows of a table, or the one row that no table gives
unfoldable pub table_alias : ℕ → List ℕ
table_alias n = 116 ∷ decimal n

-- the rows that an aggregate folds
unfoldable pub fold_alias : ℕ → List ℕ
fold_alias n = 115 ∷ decimal n

-- a join
unfoldable pub join_alias : ℕ → List ℕ
join_alias n = 106 ∷ decimal n

-- the value of a select
unfoldable pub value_name : List ℕ
value_name = codes "v"

-- the sort keys of a list's rows, from 0 on
unfoldable pub key_name : ℕ → List ℕ
key_name i = 111 ∷ decimal i

-- the columns that aggregates need, from 0 on
unfoldable pub needed_name : ℕ → List ℕ
needed_name i = 99 ∷ decimal i

-- the output of rows of which only the number counts
unfoldable pub unit_name : List ℕ
unit_name = codes "u"
