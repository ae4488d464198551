-- The table of the operators by which a column is tested in a boolean expression (Hasura, API reference: GraphQL API,
-- operators; Authorization: operators in permission rules).
use Rattle.std.specs.Prelude.{ℕ, List, [], ◌∷◌, find, Bool, true, false, Option, bytes_eq, codes}
use Rattle.hq_model.specs.Tests.{Test, Compare, Among, IsNull, Like}
use Rattle.hq_model.specs.declared.op.Op.{Op}
use Rattle.hq_model.specs.declared.op.Op.TheVariants.{Eq, Ne, Lt, Le, Gt, Ge}
pub use Rattle.hq_model.specs.declared.operator.Operator.{Operator}

-- the operator of a test, or of its opposite
abbrev pub operator : Test → (negated : Bool) → Operator
operator t negated = record { test = t; negated = negated }

-- all operators, in ascending order of the bytes of their names
abbrev pub all_operators : List Operator
all_operators =
    operator (Compare Eq) false ∷ operator (Compare Gt) false ∷ operator (Compare Ge) false ∷ operator (Like true) false
    ∷ operator Among false ∷ operator IsNull false ∷ operator (Like false) false ∷ operator (Compare Lt) false
    ∷ operator (Compare Le) false ∷ operator (Compare Ne) false ∷ operator (Like true) true ∷ operator Among true
    ∷ operator (Like false) true ∷ []

-- the name of a test's operator; comparisons and the test of NULL have one name
abbrev pub test_name : Test → (negated : Bool) → List ℕ
test_name (Compare Eq) negated = codes "_eq"
test_name (Compare Ne) negated = codes "_neq"
test_name (Compare Lt) negated = codes "_lt"
test_name (Compare Le) negated = codes "_lte"
test_name (Compare Gt) negated = codes "_gt"
test_name (Compare Ge) negated = codes "_gte"
test_name Among false = codes "_in"
test_name Among true = codes "_nin"
test_name IsNull negated = codes "_is_null"
test_name (Like false) false = codes "_like"
test_name (Like false) true = codes "_nlike"
test_name (Like true) false = codes "_ilike"
test_name (Like true) true = codes "_nilike"

abbrev pub operator_name : Operator → List ℕ
operator_name o = test_name o.test o.negated

-- the sign of a comparison in SQL, between two blanks
abbrev pub op_sign : Op → List ℕ
op_sign Eq = codes " = "
op_sign Ne = codes " <> "
op_sign Lt = codes " < "
op_sign Le = codes " <= "
op_sign Gt = codes " > "
op_sign Ge = codes " >= "

-- what a test, or its opposite, says of a column in SQL, in small letters, with the blanks around it
abbrev pub test_words : Test → (negated : Bool) → List ℕ
test_words (Compare op) negated = op_sign op
test_words Among false = codes " in "
test_words Among true = codes " not in "
test_words IsNull false = codes " is null"
test_words IsNull true = codes " is not null"
test_words (Like false) false = codes " like "
test_words (Like false) true = codes " not like "
test_words (Like true) false = codes " ilike "
test_words (Like true) true = codes " not ilike "

abbrev pub operator_words : Operator → List ℕ
operator_words o = test_words o.test o.negated

-- the operators by which two columns of a row are compared, in ascending order of the bytes of their names
abbrev pub column_operators : List Op
column_operators = Eq ∷ Gt ∷ Ge ∷ Lt ∷ Le ∷ Ne ∷ []

-- the name of each
abbrev pub column_operator_name : Op → List ℕ
column_operator_name Eq = codes "_ceq"
column_operator_name Ne = codes "_cne"
column_operator_name Lt = codes "_clt"
column_operator_name Le = codes "_clte"
column_operator_name Gt = codes "_cgt"
column_operator_name Ge = codes "_cgte"

-- the comparison of columns of this name, where there is one
abbrev pub column_operator_named : List ℕ → Option Op
column_operator_named name = find (λ op. bytes_eq (column_operator_name op) name) column_operators

-- the operator of this name, where there is one
abbrev pub operator_named : List ℕ → Option Operator
operator_named name = find (λ o. bytes_eq (operator_name o) name) all_operators
