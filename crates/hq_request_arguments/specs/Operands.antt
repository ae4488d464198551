-- What a column is compared with in a request: a constant of the column's type, which is never null (Hasura, API reference:
-- GraphQL API, where).
use Rattle.std.specs.Prelude.{Bool, if◌then◌else◌, option_map, is_ok, Ok, Err}
use Rattle.hq_base.specs.Json.{JsonTree, str}
use Rattle.hq_base.specs.Look.{bool_in}
use Rattle.hq_base.specs.Patterns.{pattern_of}
use Rattle.hq_base.specs.declared.value.Ty.{Ty}
use Rattle.hq_base.specs.declared.value.Val.TheVariants as val
use Rattle.hq_gql_tree.specs.declared.rule.RuleId.TheVariants.{PatternEscape}
use Rattle.hq_model.specs.Constants.{constant_in}
use Rattle.hq_model.specs.declared.bexp.Operand.{Operand}
use Rattle.hq_model.specs.declared.bexp.Operand.TheVariants.{Const}
use Rattle.hq_model.specs.declared.test.Test.{Test}
use Rattle.hq_model.specs.declared.test.Test.TheVariants.{Like}
use Rattle.hq_request_arguments.specs.Reading.{Read, misfit, fitting}
use Rattle.hq_request_arguments.specs.declared.refusal.ArgRefusal.TheVariants.{Rule}

-- a pattern does not end in an escape
abbrev pub pattern_due : JsonTree → Read Operand
pattern_due (str s) = if is_ok (pattern_of s) then Ok (Const (val.Text s)) else Err (Rule PatternEscape)
pattern_due j = Err (misfit j)

-- the operand of a test of a column of a type
abbrev pub operand_due : Test → Ty → JsonTree → Read Operand
operand_due (Like fold) ty j = pattern_due j
operand_due t ty j = fitting j (option_map Const (constant_in ty j))

-- whether a test that takes no operand is to hold
abbrev pub truth_due : JsonTree → Read Bool
truth_due j = fitting j (bool_in j)
