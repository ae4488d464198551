-- The compact text of the JSON that parts of a statement mean (RFC 8259; PostgreSQL, JSON functions: json_build_object, json_agg).
use Rattle.std.specs.Prelude.{ℕ, Bool, true, false, List, [], ◌∷◌, ◌++◌, map, codes}
use Rattle.std.specs.List.{flat_map, join_with_byte}
use Rattle.hq_base.specs.Cells.{json_of}
use Rattle.hq_base.specs.Compact.{compact, quoted}
use Rattle.hq_answer.specs.Answers.{IsAnswer}
use Rattle.hq_answer.specs.declared.answer.Answer.{Answer}
use Rattle.hq_base.specs.Json.{JsonTree, null, obj}
use Rattle.hq_sql_tree.specs.Tree.{ExprTree, PairTree, SelectTree, pairs_of}
use Rattle.hq_sql_tree.specs.View.{expr_view, select_view}
use Rattle.hq_sql_tree.specs.declared.expr.Expr.{Expr}
use Rattle.hq_sql_tree.specs.declared.select.Select.{Select}
use Rattle.hq_sql_access.specs.View.{names_of, world_of}
use Rattle.hq_sql_access.specs.declared.pinned.Pinned.{Pinned}
use Rattle.hq_sql_access.specs.declared.scope.Scope.{Scope}
use Rattle.hq_sql_output.specs.declared.places.Wanted.{Wanted}
use Rattle.hq_sql_output.specs.declared.places.Wanted.TheVariants.{First, All}
use Rattle.hq_sql_tree.specs.Meaning.{NamedRow, Scope as Names, World, cell_named, value, members, with_alias, rows_of}

-- of a cell of a row
abbrev pub cell_text : NamedRow → (name : List ℕ) → List ℕ
cell_text row name = compact (json_of (cell_named row name))

-- of an expression in its scope, whose aggregates are taken over a group
abbrev pub grouped_text : ExprTree → List Names → Names → List ℕ
grouped_text e group names = compact (json_of (value e group names))

-- over none
abbrev pub text_of : ExprTree → Names → List ℕ
text_of e names = grouped_text e [] names

-- of a pair of an object: its name, a colon and its value
abbrev pub pair_text : List Names → Names → PairTree → List ℕ
pair_text group names p = quoted p.name ++ 58 ∷ grouped_text p.value group names

-- of the pairs of an object, with commas between
abbrev pub pairs_text : List PairTree → List Names → Names → List ℕ
pairs_text ps group names = join_with_byte 44 (map (pair_text group names) ps)

-- of an expression in each of these scopes, with commas between
abbrev pub texts_of : ExprTree → List Names → List ℕ
texts_of e scopes = join_with_byte 44 (map (text_of e) scopes)

-- a comma and a text
abbrev pub after_comma : List ℕ → List ℕ
after_comma text = 44 ∷ text

-- these texts with commas between, and one before them where something was written already
abbrev pub more_texts : (begun : Bool) → List (List ℕ) → List ℕ
more_texts false texts = join_with_byte 44 texts
more_texts true texts = flat_map after_comma texts

-- of an expression in the first of these scopes, null where there is none
abbrev pub first_text : ExprTree → List Names → List ℕ
first_text e [] = codes "null"
first_text e (names ∷ scopes) = text_of e names

-- of what is wanted
abbrev pub wanted_text : Wanted → ExprTree → List Names → List ℕ
wanted_text First e scopes = first_text e scopes
wanted_text All e scopes = texts_of e scopes

-- of an expression whose aggregates are taken over the rows of a select
abbrev pub folded_text : ExprTree → SelectTree → (alias : List ℕ) → World → Names → List ℕ
folded_text e select alias world names = grouped_text e (map (with_alias names alias) (rows_of select world names)) names

-- the same of what is lent
abbrev pub lent_fold : Expr → Select → (alias : List ℕ) → Pinned → Scope → List ℕ
lent_fold e select alias world scope = folded_text (expr_view e) (select_view select) alias (world_of world) (names_of scope world)

-- a pair of an object: its name, and the text of its value
abbrev pub named_pair : Names → PairTree → List ℕ × List ℕ
named_pair names p = (p.name, text_of p.value names)

-- an object in the first of these scopes, null where there is none
abbrev pub first_object : List PairTree → List Names → JsonTree
first_object ps [] = null
first_object ps (names ∷ scopes) = obj (members (pairs_of ps) [] names)

abbrev pub IsFirstObject : List PairTree → List Names → Answer → Type 0
IsFirstObject ps scopes answer = IsAnswer answer (first_object ps scopes)
