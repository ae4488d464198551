-- What a database answers to a text.
use Rattle.std.specs.Prelude.{◌≡◌, ℕ, List, [], ◌∷◌, Option, Some, None, IfSome}
use Rattle.hq_base.specs.Json as json
use Rattle.hq_base.specs.Json.{JsonTree, names_of}
use Rattle.hq_answer.specs.Answers.{IsAnswer}
use Rattle.hq_answer.specs.declared.answer.Answer.{Answer}
use Rattle.hq_model.specs.Database.{Row}
use Rattle.hq_model.specs.declared.table.Table.{Table}
use Rattle.hq_sql_tree.specs.Meaning.{meaning}
use Rattle.hq_sql_tree.specs.Tree as tree
use Rattle.hq_sql_tree.specs.Tree.{ExprTree, PairTrees, OutTree, SelectTree}
use Rattle.hq_sql_text.specs.Readable.{Spells}
use Rattle.hq_database.specs.Typed.{IsTyped}

-- the names of an object's members, in order
abbrev pub member_names : JsonTree → Option (List (List ℕ))
member_names (json.obj ms) = Some (names_of ms)
member_names _ = None

-- the names of a statement's outermost json_build_object, in order
abbrev pub pair_names : PairTrees → List (List ℕ)
pair_names tree.no_pair = []
pair_names (tree.pair name e ps) = name ∷ pair_names ps

abbrev pub object_names : ExprTree → Option (List (List ℕ))
object_names (tree.object ps) = Some (pair_names ps)
object_names _ = None

abbrev pub lone_names : List OutTree → Option (List (List ℕ))
lone_names (o ∷ []) = object_names o.value
lone_names _ = None

abbrev pub statement_names : SelectTree → Option (List (List ℕ))
statement_names (tree.rows distinct outs from joins condition keys limit offset) = lone_names outs
statement_names (tree.fold out inner alias) = object_names out.value

-- the text is that of a statement that fits the catalog, and this answers with a value of its names, its meaning over the database
-- where that is told
pub record Answered (tables : List Table) (database : Option (List (List Row))) (text : List ℕ) (answer : Answer) : Type 0 where
  pub value : JsonTree
  pub is : IsAnswer answer value
  pub statement : SelectTree
  pub spelled : Spells text statement
  pub typed : IsTyped tables statement
  pub names : member_names value ≡ statement_names statement
  pub meant : IfSome database (λ d. value ≡ meaning statement (record { tables = tables; database = d }))

-- the text is that of a statement which does not fit the catalog
pub record NotFitting (tables : List Table) (text : List ℕ) : Type 0 where
  pub statement : SelectTree
  pub spelled : Spells text statement
  pub untyped : IsTyped tables statement → ⊥
