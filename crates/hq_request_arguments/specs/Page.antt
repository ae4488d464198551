-- The arguments `limit` and `offset` of a list (Hasura, Queries: paginate): whole numbers of 32 bits that are not negative.
use Rattle.std.specs.Prelude.{ℕ, ℤ, pos, negsuc, if◌then◌else◌, Option, Some, None, Ok, Err}
use Rattle.hq_base.specs.Json.{JsonTree, int}
use Rattle.hq_base.specs.declared.value.Ty.TheVariants.{Integer}
use Rattle.hq_gql_tree.specs.declared.rule.RuleId.TheVariants.{NegativeLimit, ValuesOfCorrectType}
use Rattle.hq_model.specs.Database.{int_fits}
use Rattle.hq_request_arguments.specs.Reading.{Read, Given}
use Rattle.hq_request_arguments.specs.declared.refusal.ArgRefusal.TheVariants.{Rule}

abbrev pub not_negative : ℤ → Read (Option ℕ)
not_negative (pos n) = Ok (Some n)
not_negative (negsuc n) = Err (Rule NegativeLimit)

abbrev pub rows_of : ℤ → Read (Option ℕ)
rows_of n = if int_fits Integer n then not_negative n else Err (Rule ValuesOfCorrectType)

abbrev pub rows_in : JsonTree → Read (Option ℕ)
rows_in (int n) = rows_of n
rows_in j = Err (Rule ValuesOfCorrectType)

-- a number of rows, none where the argument is absent
abbrev pub rows_due : Option Given → Read (Option ℕ)
rows_due None = Ok None
rows_due (Some g) = rows_in g.value
