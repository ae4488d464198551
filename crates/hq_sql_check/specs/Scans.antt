-- The tables that a statement takes rows from (PostgreSQL, SELECT: the FROM clause), by their places in the catalog.
use Rattle.std.specs.Prelude.{ℕ, List, [], ◌∷◌, ◌++◌, Bool, ◌==◌, Option, Some, None}
use Rattle.std.specs.List.{list_any, position}
use Rattle.hq_model.specs.declared.table.Table.{Table}
use Rattle.hq_sql_tree.specs.Tree as tree
use Rattle.hq_sql_tree.specs.Tree.{SelectTree, FromTree, JoinTrees, FilterTree, PredTree, PredTrees}
use Rattle.hq_sql_tree.specs.WellFormed.{is_table}

abbrev pub listed : Option ℕ → List ℕ
listed None = []
listed (Some t) = t ∷ []

-- the first table of this schema and name, where there is one
abbrev pub place_named : List Table → (schema name : List ℕ) → List ℕ
place_named tables schema name = listed (position (is_table schema name) tables)

abbrev mutual
  -- the tables of each FROM, also inside joins and EXISTS, as often as they stand there
  pub places : SelectTree → List Table → List ℕ
  places (tree.rows distinct outs from joins condition keys limit offset) tables = places_of_from from tables ++ (places_of_joins joins tables ++ places_of_filter condition tables)
  places (tree.fold out inner alias) tables = places inner tables

  pub places_of_from : FromTree → List Table → List ℕ
  places_of_from (tree.table schema name alias) tables = place_named tables schema name
  places_of_from (tree.sub s alias) tables = places s tables
  places_of_from (tree.one alias) tables = []

  pub places_of_joins : JoinTrees → List Table → List ℕ
  places_of_joins tree.no_join tables = []
  places_of_joins (tree.join s alias js) tables = places s tables ++ places_of_joins js tables

  pub places_of_filter : FilterTree → List Table → List ℕ
  places_of_filter tree.no_filter tables = []
  places_of_filter (tree.filter p) tables = places_of_pred p tables

  pub places_of_pred : PredTree → List Table → List ℕ
  places_of_pred tree.always tables = []
  places_of_pred tree.never tables = []
  places_of_pred (tree.test e t es) tables = []
  places_of_pred (tree.negation p) tables = places_of_pred p tables
  places_of_pred (tree.all_of ps) tables = places_of_preds ps tables
  places_of_pred (tree.any_of ps) tables = places_of_preds ps tables
  places_of_pred (tree.exists s) tables = places s tables

  pub places_of_preds : PredTrees → List Table → List ℕ
  places_of_preds tree.no_pred tables = []
  places_of_preds (tree.pred p ps) tables = places_of_pred p tables ++ places_of_preds ps tables

-- whether a statement takes rows from the table at this place
abbrev pub scans : SelectTree → List Table → ℕ → Bool
scans s tables t = list_any (λ u. u == t) (places s tables)
