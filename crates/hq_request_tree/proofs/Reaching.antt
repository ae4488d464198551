-- Filters that reach further: lists of a session, comparisons of two columns, and rows of a table by themselves.
use Rattle.std.specs.Prelude.{◌≡◌, ℕ, negsuc, List, [], ◌∷◌, map, true, false, None, Ok, Err, Some, codes, refl}
use Rattle.std.specs.Fmt.{digits}
use Rattle.std.specs.Str.{is_utf8, chars}
use Rattle.std.specs.Char.{encode_utf8}
use Rattle.hq_base.specs.Compact.{escaped}
use Rattle.hq_base.specs.declared.value.Ty.TheVariants.{Integer, Text, Boolean}
use Rattle.hq_base.specs.declared.value.Val.TheVariants as val
use Rattle.hq_model.specs.Bexp.{BexpTree, and_of, not_of, test, exists_in, two_columns, no_bexp, bexp}
use Rattle.hq_model.specs.Binding.{bound}
use Rattle.hq_model.specs.Filters.{is_filter}
use Rattle.hq_model.specs.Grants.{grants_of}
use Rattle.hq_model.specs.Meta.{PermTree}
use Rattle.hq_model.specs.SessionLists.{elements_of, listed_values}
use Rattle.hq_model.specs.declared.test.Test.TheVariants.{Compare, Among, IsNull}
use Rattle.hq_model.specs.declared.bexp.Operand.TheVariants as operand
use Rattle.hq_model.specs.declared.bexp.Operands.TheVariants as operands
use Rattle.hq_model.specs.declared.bind.BindRefusal.TheVariants.{NoVariable, BadVariable}
use Rattle.hq_model.specs.declared.op.Op.TheVariants.{Eq, Ne, Gt}
use Rattle.hq_model.specs.declared.session.Session.{Session}
use Rattle.hq_model.specs.declared.want.Want.TheVariants as want
use Rattle.hq_request_tree.specs.Fields.{list, from_table}
use Rattle.hq_request_tree.proofs.Blog.{number, schema, tables, inheriting, given, plain, only, ids}

-- a session with the ids that it may see
abbrev asking : (ids : List ℕ) → Session
asking ids = record { role = codes "user"; vars = record { name = codes "x-hasura-ids"; value = ids } ∷ [] }

abbrev perm_of : BexpTree → List PermTree
perm_of b = record { role = codes "user"; cols = 0 ∷ []; filter = b; limit = None; aggregations = false } ∷ []

-- the ids that a session is given of one of the two tables, where its role has this filter there
abbrev articles_by : BexpTree → (ids : List ℕ) → List ℕ
articles_by b listed = given (grants_of (asking listed) tables (inheriting [] [] (perm_of b))) (only (codes "article") (list (from_table 1) plain ids))

abbrev authors_by : BexpTree → List ℕ
authors_by b = given (grants_of (asking []) tables (inheriting [] (perm_of b) [])) (only (codes "author") (list (from_table 0) plain ids))

-- the ids that the session lists
abbrev listed : BexpTree
listed = test 0 Among (operands.Session (codes "x-hasura-ids")) false

some_listed : articles_by listed (codes "{12, 10}") ≡ codes "{\"article\":[{\"id\":10},{\"id\":12}]}"
unfolding digits escaped is_utf8 chars encode_utf8
some_listed = refl

none_listed : articles_by listed (codes "{}") ≡ codes "{\"article\":[]}"
unfolding digits escaped
none_listed = refl

none_but_listed : articles_by (test 0 Among (operands.Session (codes "x-hasura-ids")) true) (codes "{12, 10}") ≡ codes "{\"article\":[{\"id\":11},{\"id\":13}]}"
unfolding digits escaped is_utf8 chars encode_utf8
none_but_listed = refl

no_list : bound listed schema (asking (codes "{10,}")).vars 1 ≡ Err (BadVariable (codes "x-hasura-ids") want.IntegerList)
no_list = refl

no_number : bound listed schema (asking (codes "{10,a}")).vars 1 ≡ Err (BadVariable (codes "x-hasura-ids") want.IntegerList)
unfolding is_utf8 chars encode_utf8
no_number = refl

no_variable : bound listed schema [] 1 ≡ Err (NoVariable (codes "x-hasura-ids"))
no_variable = refl

-- a list is bound to the list of its values
list_bound : bound listed schema (asking (codes "{12, 10}")).vars 1 ≡ Ok (test 0 Among (operands.List (operand.Const (number 12) ∷ operand.Const (number 10) ∷ [])) false)
unfolding is_utf8 chars encode_utf8
list_bound = refl

-- a list of a session is for a test that takes many
list_alone : is_filter (test 0 (Compare Eq) (operands.Session (codes "x-hasura-ids")) false) schema 1 ≡ false
list_alone = refl

-- the elements of lists: quotes, escapes, spaces and NULL
elements_read : map elements_of (
    codes "{}" ∷ codes "{ }" ∷ codes "" ∷ codes "{a" ∷ codes "{a} " ∷ codes " {a}" ∷ codes "{,}" ∷ codes "{a,}" ∷ codes "{null}" ∷ codes "{{a}}" ∷ codes "{a\"b}" ∷ codes "{\"a\"b}"
    ∷ [])
    ≡ Some [] ∷ None ∷ None ∷ None ∷ None ∷ None ∷ None ∷ None ∷ None ∷ None ∷ None ∷ None ∷ []
elements_read = refl

elements_spelled : map elements_of (
    codes "{ a b , c }" ∷ codes "{\"\"}" ∷ codes "{\"a,b}\" , \"c\\\"d\\\\\"}" ∷ codes "{\"NULL\",nulls}"
    ∷ [])
    ≡ Some (codes "a b" ∷ codes "c" ∷ []) ∷ Some ([] ∷ []) ∷ Some (codes "a,b}" ∷ codes "c\"d\\" ∷ []) ∷ Some (codes "NULL" ∷ codes "nulls" ∷ []) ∷ []
elements_spelled = refl

-- elements of each type
values_read :
    listed_values Among Integer (codes "{-1, \"2\"}") ∷ listed_values Among Boolean (codes "{t,false}")
    ∷ listed_values Among Text (codes "{t}") ∷ listed_values Among Integer (codes "{2147483648}") ∷ []
    ≡ Some (val.Int (negsuc 0) ∷ number 2 ∷ []) ∷ Some (val.Bool true ∷ val.Bool false ∷ []) ∷ Some (val.Text (codes "t") ∷ []) ∷ None ∷ []
unfolding is_utf8 chars encode_utf8
values_read = refl

-- an article whose id is greater than its rating; one without a rating is neither greater nor not
greater : articles_by (two_columns 0 Gt 4) [] ≡ codes "{\"article\":[{\"id\":10},{\"id\":12},{\"id\":13}]}"
unfolding digits escaped
greater = refl

not_greater : articles_by (not_of (two_columns 0 Gt 4)) [] ≡ codes "{\"article\":[]}"
unfolding digits escaped
not_greater = refl

unequal : articles_by (two_columns 4 Ne 1) [] ≡ codes "{\"article\":[{\"id\":10},{\"id\":12}]}"
unfolding digits escaped
unequal = refl

-- columns of one row are compared where they are of one kind
kinds_compared : is_filter (two_columns 0 Gt 4) schema 1 ≡ true
kinds_compared = refl

kinds_apart : is_filter (two_columns 0 Gt 2) schema 1 ≡ false
kinds_apart = refl

-- all authors, where there is an article of a rating above this
abbrev rated_above : ℕ → BexpTree
rated_above n = exists_in 1 (test 4 (Compare Gt) (operands.List (operand.Const (number n) ∷ [])) false)

some_above : authors_by (rated_above 6) ≡ codes "{\"author\":[{\"id\":1},{\"id\":2},{\"id\":3}]}"
unfolding digits escaped
some_above = refl

none_above : authors_by (rated_above 7) ≡ codes "{\"author\":[]}"
unfolding digits escaped
none_above = refl

-- rows of a table by themselves: the table itself, one in another, and its opposite, which is never unknown
nested : authors_by (exists_in 0 (and_of (bexp (test 2 IsNull (operands.List []) true) (bexp (rated_above 6) no_bexp)))) ≡ codes "{\"author\":[{\"id\":1},{\"id\":2},{\"id\":3}]}"
unfolding digits escaped
nested = refl

not_nested : authors_by (not_of (rated_above 7)) ≡ codes "{\"author\":[{\"id\":1},{\"id\":2},{\"id\":3}]}"
unfolding digits escaped
not_nested = refl

-- the table is one of the catalog
beyond_catalog : is_filter (exists_in 2 (test 0 IsNull (operands.List []) false)) schema 1 ≡ false
beyond_catalog = refl
