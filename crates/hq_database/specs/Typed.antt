-- The statements that a database of a catalog answers: those that are well-formed for it.
use Rattle.std.specs.Prelude.{◌≡◌, List, true}
use Rattle.hq_model.specs.declared.table.Table.{Table}
use Rattle.hq_sql_tree.specs.Tree.{SelectTree}
use Rattle.hq_sql_tree.specs.WellFormed.{is_statement}

-- the statement fits the catalog
abbrev pub IsTyped : List Table → SelectTree → Type 0
IsTyped tables s = is_statement s tables ≡ true
