-- The comparisons of a scalar (Hasura, API reference: GraphQL API, where).
use Rattle.std.specs.Prelude.{List, map, filter, Bool}
use Rattle.hq_base.specs.declared.value.Ty.{Ty}
use Rattle.hq_model.specs.Operators.{all_operators, operator_name}
use Rattle.hq_model.specs.Tests.{arity, applies}
use Rattle.hq_model.specs.declared.operator.Operator.{Operator}
use Rattle.hq_model.specs.declared.test.Arity.{Arity}
use Rattle.hq_model.specs.declared.test.Arity.TheVariants.{Nothing, One, Many}
use Rattle.hq_schema.specs.Fixed.{boolean}
use Rattle.hq_schema.specs.Schema.{TypeRefTree, ArgTree}
use Rattle.hq_schema.specs.declared.fixed.Fixed.TheVariants.{Scalar}
use Rattle.hq_schema.specs.declared.origin.ArgOrigin.TheVariants as origin
use Rattle.hq_schema_of_role.specs.References.{fixed, items, arg}

-- what an operator's value is: a truth value, a value of the scalar, or a list of such
abbrev pub value_type : Ty → Arity → TypeRefTree
value_type s Nothing = fixed boolean
value_type s One = fixed (Scalar s)
value_type s Many = items (fixed (Scalar s))

abbrev pub operator_arg : Ty → Operator → ArgTree
operator_arg s o = arg (operator_name o) (value_type s (arity o.test)) (origin.Operator o)

-- whether an operator is one of the scalar
abbrev pub is_operator_of : Ty → Operator → Bool
is_operator_of s o = applies o.test s

-- the comparisons of a scalar
unfoldable pub operator_inputs : Ty → List ArgTree
operator_inputs s = map (operator_arg s) (filter (is_operator_of s) all_operators)
