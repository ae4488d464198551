-- The conditions that the comparisons of a column write (Hasura, API reference: GraphQL API, operators).
use Rattle.std.specs.Prelude.{ℕ, List, [], ◌∷◌, not, cond, if◌then◌else◌, Option, Some, None, option_and_then, Err}
use Rattle.hq_base.specs.Due.{mapped}
use Rattle.hq_base.specs.Json.{JsonTree, obj}
use Rattle.hq_base.specs.Look.{member_list}
use Rattle.hq_base.specs.declared.value.Ty.{Ty}
use Rattle.hq_gql_tree.specs.declared.rule.RuleId.TheVariants.{InputObjectFieldNames, ValuesOfCorrectType}
use Rattle.hq_schema.specs.Look.{input_field_of}
use Rattle.hq_schema.specs.declared.origin.ArgOrigin.{ArgOrigin}
use Rattle.hq_schema.specs.declared.origin.ArgOrigin.TheVariants as stands
use Rattle.hq_model.specs.Bexp.{BexpTree, test, conjunction}
use Rattle.hq_model.specs.Tests.{arity, applies}
use Rattle.hq_model.specs.declared.bexp.Operands.TheVariants as operands
use Rattle.hq_model.specs.declared.operator.Operator.{Operator}
use Rattle.hq_model.specs.declared.test.Arity.{Arity}
use Rattle.hq_model.specs.declared.test.Arity.TheVariants.{Nothing, One, Many}
use Rattle.hq_request_arguments.specs.Context.{Context}
use Rattle.hq_request_arguments.specs.Operands.{operand_due, truth_due}
use Rattle.hq_request_arguments.specs.Reading.{Read, each, items_in, misfit}
use Rattle.hq_request_arguments.specs.declared.refusal.ArgRefusal.TheVariants.{Rule}

-- the test of an operator on column c of a type, by how many operands it takes: without any, its value tells whether it is to
-- hold, or its opposite
abbrev pub tested_due : (column : ℕ) → Ty → Operator → JsonTree → Arity → Read BexpTree
tested_due c ty o j Nothing = mapped (λ holds. test c o.test (operands.List []) (cond holds o.negated (not o.negated))) (truth_due j)
tested_due c ty o j One = mapped (λ v. test c o.test (operands.List (v ∷ [])) o.negated) (operand_due o.test ty j)
tested_due c ty o j Many = mapped (λ vs. test c o.test (operands.List vs) o.negated) (each (operand_due o.test ty) (items_in j))

-- the condition of an operator, which must be one of the type
abbrev pub operator_due : (column : ℕ) → Ty → Operator → JsonTree → Read BexpTree
operator_due c ty o j = if applies o.test ty then tested_due c ty o j (arity o.test) else Err (Rule ValuesOfCorrectType)

-- the operator for which an input field stands
abbrev pub operator_of : ArgOrigin → Option Operator
operator_of (stands.Operator o) = Some o
operator_of o = None

abbrev pub operator_named : Context → (type : ℕ) → (name : List ℕ) → Option Operator
operator_named c p name = option_and_then (λ a. operator_of a.origin) (input_field_of c.schema p name)

-- the condition of a member, by the operator that it names
abbrev pub member_due : (column : ℕ) → Ty → Option Operator → JsonTree → Read BexpTree
member_due c ty None j = Err (Rule InputObjectFieldNames)
member_due c ty (Some o) j = operator_due c ty o j

abbrev pub named_due : Context → (type : ℕ) → (column : ℕ) → Ty → List ℕ × JsonTree → Read BexpTree
named_due x p c ty m = member_due c ty (operator_named x p m.0) m.1

-- the conditions on column c of a type, in the order of the object's members, which name the operators of the input object p
abbrev pub comparisons_due : Context → (type : ℕ) → (column : ℕ) → Ty → JsonTree → Read BexpTree
comparisons_due x p c ty (obj ms) = mapped conjunction (each (named_due x p c ty) (member_list ms))
comparisons_due x p c ty j = Err (misfit j)
