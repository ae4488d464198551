-- An EXISTS over the rows of a table.
use Rattle.std.specs.Prelude.{◌≡◌, ℕ, List}
use Rattle.std.specs.List.{list_any}
use Rattle.hq_model.specs.Database.{Row}
use Rattle.hq_model.specs.Logic.{truth_of}
use Rattle.hq_model.specs.declared.table.Column.{Column}
use Rattle.hq_sql_conjuncts.specs.Split.{kept_one}
use Rattle.hq_sql_tree.specs.Meaning.{Scope as Names, World, named_row, truth_at, with_alias}
use Rattle.hq_sql_tree.specs.Tree.{PredTree}

-- a condition is true exactly where a WHERE keeps one of these rows of an alias, and false elsewhere
abbrev pub Filters : World → PredTree → List Column → List Row → (alias : List ℕ) → PredTree → Type 0
Filters w has columns rows alias p =
    (names : Names) → truth_at has w names ≡ truth_of (list_any (λ row. kept_one p w (with_alias names alias (named_row columns row))) rows)
