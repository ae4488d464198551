-- Arguments that name no column: `distinct` of `count`, `name` of `__type`, and `includeDeprecated` (GraphQL October 2021, 4.2).
use Rattle.std.specs.Prelude.{ℕ, List, Bool, false, Option, Some, None, ok_or, Ok, Err}
use Rattle.hq_base.specs.Look.{str_in, bool_in}
use Rattle.hq_gql_tree.specs.declared.rule.RuleId.TheVariants.{RequiredArguments, ValuesOfCorrectType}
use Rattle.hq_request_arguments.specs.Reading.{Read, Given}
use Rattle.hq_request_arguments.specs.declared.refusal.ArgRefusal.TheVariants.{Rule}

-- a truth value, false where the argument is absent
abbrev pub flag_due : Option Given → Read Bool
flag_due None = Ok false
flag_due (Some g) = ok_or (bool_in g.value) (Rule ValuesOfCorrectType)

-- a text, which must be given
abbrev pub text_due : Option Given → Read (List ℕ)
text_due None = Err (Rule RequiredArguments)
text_due (Some g) = ok_or (str_in g.value) (Rule ValuesOfCorrectType)
