-- What a FROM gives.
use Rattle.std.specs.Prelude.{ℕ, Bool, true, false, List, [], ◌∷◌, codes}
use Rattle.hq_base.specs.Cells as cell
use Rattle.hq_sql_tree.specs.Tree.{FromTree, table, sub, one}
use Rattle.hq_sql_tree.specs.Meaning.{NamedRow, Scope as Names, World, rows_of, rows_named}

-- the one row of One
abbrev pub row_of_one : NamedRow
row_of_one = (codes "u", cell.bool true) ∷ []

-- the alias of a FROM
abbrev pub alias_in : FromTree → List ℕ
alias_in (table schema name alias) = alias
alias_in (sub select alias) = alias
alias_in (one alias) = alias

-- the rows of the sub-select that it names, none where it names another thing
abbrev pub made_rows : FromTree → World → Names → List NamedRow
made_rows (table schema name alias) world names = []
made_rows (sub select alias) world names = rows_of select world names
made_rows (one alias) world names = []

-- its rows, where those of a sub-select are given
abbrev pub rows_given : FromTree → World → List NamedRow → List NamedRow
rows_given (table schema name alias) world made = rows_named world.tables world.database schema name
rows_given (sub select alias) world made = made
rows_given (one alias) world made = row_of_one ∷ []

-- whether a list has an item
abbrev pub has_items : {A : Type 0} → List A → Bool
has_items [] = false
has_items (x ∷ xs) = true
