-- The values of a key by which a row is looked up (Hasura, Queries: fetch by primary key).
use Rattle.std.specs.Prelude.{ℕ, List, Bool, false, ◌==◌, Option, find, option_and_then, ok_or}
use Rattle.hq_base.specs.Due.{and_then}
use Rattle.hq_base.specs.Json.{JsonTree}
use Rattle.hq_base.specs.declared.value.Ty.{Ty}
use Rattle.hq_base.specs.declared.value.Val.{Val}
use Rattle.hq_gql_tree.specs.Values.{ArgumentTree}
use Rattle.hq_gql_tree.specs.declared.rule.RuleId.TheVariants.{RequiredArguments, ValuesOfCorrectType}
use Rattle.hq_schema.specs.Schema.{ArgTree}
use Rattle.hq_schema.specs.declared.origin.ArgOrigin.{ArgOrigin}
use Rattle.hq_schema.specs.declared.origin.ArgOrigin.TheVariants as stands
use Rattle.hq_model.specs.Constants.{constant_in}
use Rattle.hq_model.specs.Schema.{table, column}
use Rattle.hq_request_arguments.specs.Context.{Context}
use Rattle.hq_request_arguments.specs.Reading.{Read, each, Given, argument_named, given}
use Rattle.hq_request_arguments.specs.declared.refusal.ArgRefusal.TheVariants.{Rule}

-- the argument for a column
abbrev pub is_for : (column : ℕ) → ArgOrigin → Bool
is_for c (stands.Column d) = d == c
is_for c o = false

abbrev pub key_argument : List ArgTree → (column : ℕ) → Option ArgTree
key_argument args c = find (λ a. is_for c a.origin) args

-- a value of a column's type
abbrev pub key_value : Ty → JsonTree → Read Val
key_value ty j = ok_or (constant_in ty j) (Rule ValuesOfCorrectType)

-- the value of a column of a key, which must be given
abbrev pub given_for : Context → List ArgTree → List ArgumentTree → (column : ℕ) → Option Given
given_for c args xs k = option_and_then (λ a. option_and_then (given c a) (argument_named xs a.name)) (key_argument args k)

abbrev pub part_due : Context → List ArgTree → List ArgumentTree → (table column : ℕ) → Read Val
part_due c args xs t k =
    and_then (λ g. key_value (column c.tables t k).ty g.value) (ok_or (given_for c args xs k) (Rule RequiredArguments))

-- the values of the key of table t, in the order of its columns
abbrev pub key_due : Context → List ArgTree → List ArgumentTree → (table : ℕ) → Read (List Val)
key_due c args xs t = each (part_due c args xs t) (table c.tables t).key
