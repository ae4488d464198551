-- The conditions that a filter puts on a column (Hasura, Authorization: operators in permission rules).
use Rattle.std.specs.Prelude.{ℕ, false, not, cond, List, [], ◌∷◌, Option, Some, None, ok_or, slice_get, Result, Ok, Err, if◌then◌else◌}
use Rattle.hq_base.specs.Due.{mapped, ◌>>=◌}
use Rattle.hq_base.specs.Json.{JsonTree, obj}
use Rattle.hq_base.specs.Look.{str_in, array_in, member_list}
use Rattle.hq_base.specs.declared.value.Ty.{Ty}
use Rattle.hq_model.specs.Bexp.{BexpTree, test, two_columns, conjunction}
use Rattle.hq_model.specs.Catalog.{can_pair, type_of}
use Rattle.hq_model.specs.Operators.{operator, column_operator_named}
use Rattle.hq_model.specs.Schema.{SchemaTable}
use Rattle.hq_model.specs.Tests.{arity, applies}
use Rattle.hq_model.specs.declared.bexp.Operands.{Operands}
use Rattle.hq_model.specs.declared.bexp.Operands.TheVariants as operands
use Rattle.hq_model.specs.declared.op.Op.{Op}
use Rattle.hq_model.specs.declared.op.Op.TheVariants.{Eq}
use Rattle.hq_model.specs.declared.operator.Operator.{Operator}
use Rattle.hq_model.specs.declared.test.Arity.{Arity}
use Rattle.hq_model.specs.declared.test.Arity.TheVariants.{Nothing, One, Many}
use Rattle.hq_model.specs.declared.test.Test.{Test}
use Rattle.hq_model.specs.declared.test.Test.TheVariants.{Compare}
use Rattle.hq_load_filter.specs.declared.refusal.FilterRefusal.{FilterRefusal}
use Rattle.hq_load_filter.specs.declared.refusal.FilterRefusal.TheVariants.{Shape, UnknownColumn, BadOperand}
use Rattle.hq_load_filter.specs.Each.{each_element, each_member}
use Rattle.hq_load_filter.specs.Named.{column_named}
use Rattle.hq_load_filter.specs.Operand.{operand_at, operand_read, truth_in}
use Rattle.hq_load_filter.specs.Operator.{operator_named}
use Rattle.hq_load_filter.specs.Variable.{variable_named}

-- what is compared with another column of the table: a text names it, and the values of both can be compared
unfoldable pub compared_due : SchemaTable → (c : ℕ) → Op → (path : List ℕ) → JsonTree → Result BexpTree FilterRefusal
compared_due x c op path j = do
  name ← ok_or (str_in j) (Shape path)
  d ← ok_or (column_named x name) (UnknownColumn path)
  if can_pair (type_of (slice_get x.columns c)) (type_of (slice_get x.columns d)) then Ok (two_columns c op d) else Err (BadOperand path)

-- a test that takes no operand: the truth value at a path tells whether it is to hold, or its opposite
unfoldable pub told_due : (c : ℕ) → Operator → (path : List ℕ) → JsonTree → Result BexpTree FilterRefusal
told_due c o path j = mapped (λ holds. test c o.test (operands.List []) (cond holds o.negated (not o.negated))) (operand_read path (truth_in j))

-- a test of one operand, which stands at a path
unfoldable pub single_due : (c : ℕ) → Ty → Operator → (path : List ℕ) → JsonTree → Result BexpTree FilterRefusal
single_due c ty o path j = mapped (λ v. test c o.test (operands.List (v ∷ [])) o.negated) (operand_at o.test ty path j)

-- the operands at a path: a list of them, or the session variable that lists them
abbrev pub operands_by : Test → Ty → (path : List ℕ) → (text : Option (List ℕ)) (list : Option (List JsonTree)) → Result Operands FilterRefusal
operands_by t ty path (Some s) list = mapped operands.Session (operand_read path (variable_named s))
operands_by t ty path None list = do
  js ← operand_read path list
  mapped operands.List (each_element (operand_at t ty) path 0 js)

-- a test of the operands at a path
unfoldable pub listed_due : (c : ℕ) → Ty → Operator → (path : List ℕ) → JsonTree → Result BexpTree FilterRefusal
listed_due c ty o path j = mapped (λ vs. test c o.test vs o.negated) (operands_by o.test ty path (str_in j) (array_in j))

-- the test of an operator, by how many operands it takes
abbrev pub tested_due : (c : ℕ) → Ty → Operator → (path : List ℕ) → JsonTree → Arity → Result BexpTree FilterRefusal
tested_due c ty o path j Nothing = told_due c o path j
tested_due c ty o path j One = single_due c ty o path j
tested_due c ty o path j Many = listed_due c ty o path j

-- the condition of an operator, whose operand stands at a path; BadOperand where it is unknown or not one of the type
abbrev pub condition_due : (c : ℕ) → Ty → (path : List ℕ) → Option Operator → JsonTree → Result BexpTree FilterRefusal
condition_due c ty path None j = Err (BadOperand path)
condition_due c ty path (Some o) j = if applies o.test ty then tested_due c ty o path j (arity o.test) else Err (BadOperand path)

-- the condition of the operator of this name: a comparison with another column, or a test of operands
abbrev pub named_due : SchemaTable → (c : ℕ) → Ty → (name path : List ℕ) → JsonTree → Option Op → Result BexpTree FilterRefusal
named_due x c ty name path j (Some op) = compared_due x c op path j
named_due x c ty name path j None = condition_due c ty path (operator_named name) j

-- the condition that the member of this name writes, where its value stands at a path
abbrev pub written_on : SchemaTable → (c : ℕ) → Ty → (name path : List ℕ) → JsonTree → Result BexpTree FilterRefusal
written_on x c ty name path j = named_due x c ty name path j (column_operator_named name)

-- The conditions on column c of a table, which is of a type: all operators of an object, in order, each at the path of its
-- member; any other value stands for `_eq`, whose operand it is at the column's own path.
abbrev pub column_due : SchemaTable → (c : ℕ) → Ty → (path : List ℕ) → JsonTree → Result BexpTree FilterRefusal
column_due x c ty path (obj ms) = mapped conjunction (each_member (written_on x c ty) path (member_list ms))
column_due x c ty path j = condition_due c ty path (Some (operator (Compare Eq) false)) j
