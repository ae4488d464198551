-- How the parts of a value are read: one after the other, and the first refusal is the answer. A rule that a value breaks stands
-- for its fault, whose place is that of the field. Values that validation lets through break no rule of section 5 here.
use Rattle.std.specs.Prelude.{ℕ, List, [], ◌∷◌, Option, Some, None, option_map, option_and_then, unwrap_or, find, bytes_eq, Result, Ok, Err}
use Rattle.hq_base.specs.Due.{and_then, mapped}
use Rattle.hq_base.specs.Json.{JsonTree, null}
use Rattle.hq_base.specs.Look.{array_in}
use Rattle.hq_gql_tree.specs.Values.{ArgumentTree}
use Rattle.hq_gql_tree.specs.declared.rule.RuleId.TheVariants.{NullOperand, ValuesOfCorrectType}
use Rattle.hq_schema.specs.Look.{arg_in}
use Rattle.hq_schema.specs.Schema.{ArgTree}
use Rattle.hq_request_coerce.specs.Sources.{source_of}
use Rattle.hq_request_arguments.specs.Context.{Context}
use Rattle.hq_request_arguments.specs.declared.refusal.ArgRefusal.{ArgRefusal}
use Rattle.hq_request_arguments.specs.declared.refusal.ArgRefusal.TheVariants.{Rule}

-- what is read of a value
abbrev pub Read : Type 0 → Type 0
Read A = Result A ArgRefusal

-- the items of a list, each read
abbrev pub each : {A B : Type 0} → (read : A → Read B) → List A → Read (List B)
each read [] = Ok []
each read (x ∷ xs) = and_then (λ y. mapped (λ ys. y ∷ ys) (each read xs)) (read x)

-- the elements of a list; a single value stands for a list of one (GraphQL October 2021, 3.11)
abbrev pub items_in : JsonTree → List JsonTree
items_in j = unwrap_or (array_in j) (j ∷ [])

-- the rule that a value breaks where another kind of value is wanted in a filter or a sort: a null there has a rule of its own
abbrev pub misfit : JsonTree → ArgRefusal
misfit null = Rule NullOperand
misfit j = Rule ValuesOfCorrectType

-- what is read of a value, where it is of the kind that is wanted
abbrev pub fitting : {A : Type 0} → JsonTree → Option A → Read A
fitting j (Some x) = Ok x
fitting j None = Err (misfit j)

-- an argument that is given, with its definition: null is as absent (Hasura, Queries), and so is a variable without a value
pub record Given : Type 0 where
  pub arg : ArgTree
  pub value : JsonTree

abbrev pub unless_null : JsonTree → Option JsonTree
unless_null null = None
unless_null j = Some j

abbrev pub given : Context → ArgTree → ArgumentTree → Option Given
given c a x = option_map (λ j. record { arg = a; value = j }) (option_and_then unless_null (source_of c.vars x.value.value))

-- the argument of a name; of two of one name the first counts
abbrev pub argument_named : List ArgumentTree → (name : List ℕ) → Option ArgumentTree
argument_named xs name = find (λ x. bytes_eq x.name name) xs

abbrev pub given_named : Context → List ArgTree → List ArgumentTree → (name : List ℕ) → Option Given
given_named c args xs name = option_and_then (λ x. option_and_then (λ a. given c a x) (arg_in args x.name)) (argument_named xs name)
