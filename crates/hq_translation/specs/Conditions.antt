-- Conditions of WHERE: literals, lists of conditions in one, and tests of a value.
use Rattle.std.specs.Prelude.{ℕ, List, [], ◌∷◌, map, Bool, cond}
use Rattle.hq_base.specs.Types.{is_uuid}
use Rattle.hq_base.specs.declared.value.Ty.{Ty}
use Rattle.hq_base.specs.declared.value.Val.{Val}
use Rattle.hq_base.specs.declared.value.Val.TheVariants as val
use Rattle.hq_model.specs.Tests.{arity, is_of_nothing}
use Rattle.hq_model.specs.declared.test.Test.{Test}
use Rattle.hq_model.specs.declared.bexp.Operand.{Operand}
use Rattle.hq_model.specs.declared.bexp.Operand.TheVariants.{Const, Session}
use Rattle.hq_model.specs.declared.test.Arity.{Arity}
use Rattle.hq_model.specs.declared.test.Arity.TheVariants.{Nothing, One, Many}
use Rattle.hq_sql_tree.specs.Tree.{ExprTree, int, text, uuid, bool, object, no_pair, FilterTree, no_filter, filter, PredTree, always, never, test, negation, all_of, any_of, preds_of}

-- the literal of a text: where it is compared with a uuid, one of that type
abbrev pub text_literal : Ty → List ℕ → ExprTree
text_literal ty s = cond (is_uuid ty) (uuid s) (text s)

-- The literal of a value that is compared with a column of a type. NULL is no value of an operand that is bound; in its place stands an
-- object, which compares with no cell, as NULL does.
abbrev pub literal : Ty → Val → ExprTree
literal ty val.Null = object no_pair
literal ty (val.Int n) = int n
literal ty (val.Text s) = text_literal ty s
literal ty (val.Bool b) = bool b

-- the literal of an operand; a session variable that is not bound is NULL
abbrev pub operand_literal : Ty → Operand → ExprTree
operand_literal ty (Const v) = literal ty v
operand_literal ty (Session name) = object no_pair

-- one condition of several, and of several alternatives
abbrev pub joined_by_and : List PredTree → PredTree
joined_by_and [] = always
joined_by_and (p ∷ []) = p
joined_by_and (p ∷ (q ∷ ps)) = all_of (preds_of (p ∷ (q ∷ ps)))

abbrev pub joined_by_or : List PredTree → PredTree
joined_by_or [] = never
joined_by_or (p ∷ []) = p
joined_by_or (p ∷ (q ∷ ps)) = any_of (preds_of (p ∷ (q ∷ ps)))

-- one more member of a WHERE, which is left out where it is TRUE
abbrev pub with_member : PredTree → List PredTree → List PredTree
with_member always ps = ps
with_member p ps = p ∷ ps

-- WHERE; absent where it has no member
abbrev pub where_of : List PredTree → FilterTree
where_of [] = no_filter
where_of (p ∷ ps) = filter (joined_by_and (p ∷ ps))

-- NOT, where it is asked for
abbrev pub negation_if : Bool → PredTree → PredTree
negation_if negated p = cond negated (negation p) p

-- the literals of as many operands as are taken; one that is absent is NULL
abbrev pub first_literal : Ty → List Operand → ExprTree
first_literal ty [] = literal ty val.Null
first_literal ty (v ∷ vs) = operand_literal ty v

abbrev pub literals_for : Ty → Arity → List Operand → List ExprTree
literals_for ty Nothing vs = []
literals_for ty One vs = first_literal ty vs ∷ []
literals_for ty Many vs = map (operand_literal ty) vs

-- a test of a value of a type, and the opposite where negated; no value is one of none
abbrev pub test_of : Ty → ExprTree → Test → List Operand → (negated : Bool) → PredTree
test_of ty e t vs negated = cond (is_of_nothing t vs) (cond negated always never) (negation_if negated (test e t (literals_for ty (arity t) vs)))
