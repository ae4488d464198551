-- The operators of a column (Hasura, Authorization: operators in permission rules).
use Rattle.std.specs.Prelude.{ℕ, List, Option, if◌then◌else◌, bytes_eq, codes}
use Rattle.hq_model.specs.Operators as table
use Rattle.hq_model.specs.declared.operator.Operator.{Operator}

-- the operator of this name, where there is one: `_neq` has a second name here, `_ne`
unfoldable pub operator_named : List ℕ → Option Operator
operator_named name = if bytes_eq name (codes "_ne") then table.operator_named (codes "_neq") else table.operator_named name
