-- What a column is compared with: a constant of the column's type, or a session variable (Hasura, Authorization:
-- operators in permission rules).
use Rattle.std.specs.Prelude.{ℕ, List, Bool, Option, Some, None, option_map, ok_or, Result}
use Rattle.std.specs.Option.{option_or}
use Rattle.std.specs.Result.{result_ok}
use Rattle.hq_base.specs.Json.{JsonTree, bool, str}
use Rattle.hq_base.specs.declared.value.Ty.{Ty}
use Rattle.hq_base.specs.declared.value.Val.{Val}
use Rattle.hq_model.specs.Constants.{constant_in}
use Rattle.hq_model.specs.Reading.{truth_value}
use Rattle.hq_model.specs.Tests.{reads}
use Rattle.hq_model.specs.declared.bexp.Operand.{Operand}
use Rattle.hq_model.specs.declared.bexp.Operand.TheVariants.{Const, Session}
use Rattle.hq_model.specs.declared.test.Test.{Test}
use Rattle.hq_model.specs.declared.want.Want.{Want}
use Rattle.hq_load_filter.specs.declared.refusal.FilterRefusal.{FilterRefusal}
use Rattle.hq_load_filter.specs.declared.refusal.FilterRefusal.TheVariants.{BadOperand}
use Rattle.hq_load_filter.specs.Variable.{variable_named}

-- a text names a session variable; else it is the constant that it is read as, where it can be read
unfoldable pub text_operand : (read : List ℕ → Result Val Want) → List ℕ → Option Operand
text_operand read s = option_or (option_map Session (variable_named s)) (option_map Const (result_ok (read s)))

-- an operand of a test of a column of a type: a text that is read for the test, or any other constant of the type
unfoldable pub operand_of : Test → Ty → JsonTree → Option Operand
operand_of t ty (str s) = text_operand (reads t ty) s
operand_of t ty j = option_map Const (constant_in ty j)

-- a truth value, or a text that is read as one
unfoldable pub truth_in : JsonTree → Option Bool
truth_in (bool b) = Some b
truth_in (str s) = truth_value s
truth_in _ = None

-- what an operand is read as, or BadOperand at its path
abbrev pub operand_read : {A : Type 0} → (path : List ℕ) → Option A → Result A FilterRefusal
operand_read path found = ok_or found (BadOperand path)

-- the operand at a path, of a test of a column of a type
abbrev pub operand_at : Test → Ty → (path : List ℕ) → JsonTree → Result Operand FilterRefusal
operand_at t ty path j = operand_read path (operand_of t ty j)
