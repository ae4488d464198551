-- Arguments that are given under a schema in other numbers.
use Rattle.std.proofs.Common.{◌≡◌, ◌∙◌, refl, ap, subst, ℕ, List, map, Option, Some, None, option_map, option_and_then, bytes_eq}
use Rattle.hq_base.specs.Json.{JsonTree}
use Rattle.hq_base.specs.Lists.{Each}
use Rattle.hq_request_arguments.specs.Context.{Context}
use Rattle.hq_request_arguments.specs.Plain.{flag_due, text_due}
use Rattle.hq_request_arguments.specs.Page.{rows_due}
use Rattle.hq_request_arguments.specs.Reading.{Given, unless_null, given, argument_named, given_named}
use Rattle.hq_request_coerce.specs.Sources.{source_of}
use Rattle.hq_request_coerce.specs.Variables.{VarTree}
use Rattle.hq_gql_tree.specs.Values.{ArgumentTree}
use Rattle.hq_laws_renumbered.specs.Resolving.Renumbering.{Renumbering}
use Rattle.hq_schema.specs.Look.{arg_in}
use Rattle.hq_schema.specs.Schema.{ArgTree, SchemaTree}
use Rattle.hq_laws_renumbered.specs.Schemas.SchemaOver.{arg_over}
use Rattle.hq_model.specs.Schema.{Schema}
use Rattle.hq_laws_renumbered.proofs.Requests.Items.{find_map, found_each}

-- a given argument of which only the number differs
abbrev pub given_over : Renumbering → ℕ → Given → Given
given_over n t g = record { arg = arg_over n t g.arg; value = g.value }

-- what is read against a schema, and against it in other numbers
abbrev pub context : List VarTree → SchemaTree → Schema → Context
context vars r s = record { vars = vars; schema = r; tables = s }

module _ (n : Renumbering) (vars : List VarTree) (r q : SchemaTree) (s z : Schema) (t : ℕ) where
  pub one_given : (a : ArgTree) (x : ArgumentTree) → given (context vars q z) (arg_over n t a) x ≡ option_map (given_over n t) (given (context vars r s) a x)
  one_given a x = go (option_and_then unless_null (source_of vars x.value.value))
    where
      go : (o : Option JsonTree) → option_map (λ j. record { arg = arg_over n t a; value = j }) o ≡ option_map (given_over n t) (option_map (λ j. record { arg = a; value = j }) o)
      go None = refl
      go (Some j) = refl

  -- an argument of this name
  pub named_given : (args : List ArgTree) (xs : List ArgumentTree) (name : List ℕ)
      → given_named (context vars q z) (map (arg_over n t) args) xs name
      ≡ option_map (given_over n t) (given_named (context vars r s) args xs name)
  named_given args xs name = go (argument_named xs name)
    where
      one : (x : ArgumentTree) (o : Option ArgTree)
          → option_and_then (λ a. given (context vars q z) a x) (option_map (arg_over n t) o)
          ≡ option_map (given_over n t) (option_and_then (λ a. given (context vars r s) a x) o)
      one x None = refl
      one x (Some a) = one_given a x

      go : (o : Option ArgumentTree) → option_and_then (λ x. option_and_then (λ a. given (context vars q z) a x) (arg_in (map (arg_over n t) args) x.name)) o
          ≡ option_map (given_over n t) (option_and_then (λ x. option_and_then (λ a. given (context vars r s) a x) (arg_in args x.name)) o)
      go None = refl
      go (Some x) = ap (option_and_then (λ a. given (context vars q z) a x)) (find_map (λ (a : ArgTree). bytes_eq a.name x.name) (arg_over n t) args) ∙ one x (arg_in args x.name)

-- what all arguments have, those that are given have
given_is : (P : ArgTree → Type 0) (c : Context) (a : ArgTree) (x : ArgumentTree) (g : Given) → P a → given c a x ≡ Some g → P g.arg
given_is P c a x g h e = go (option_and_then unless_null (source_of c.vars x.value.value)) e
  where
    go : (o : Option JsonTree) → option_map (λ j. record { arg = a; value = j }) o ≡ Some g → P g.arg
    go None e = cc
    go (Some j) e = let same : record { arg = a; value = j } ≡ g = cc in subst (λ (y : Given). P y.arg) same h

pub given_each : (P : ArgTree → Type 0) (c : Context) (args : List ArgTree) (xs : List ArgumentTree) (name : List ℕ) (g : Given) → Each P args → given_named c args xs name ≡ Some g → P g.arg
given_each P c args xs name g h e = go (argument_named xs name) e
  where
    one : (x : ArgumentTree) (o : Option ArgTree) → arg_in args x.name ≡ o → option_and_then (λ a. given c a x) o ≡ Some g → P g.arg
    one x None is e = cc
    one x (Some a) is e = given_is P c a x g (found_each P (λ (y : ArgTree). bytes_eq y.name x.name) args a is h).0 e

    go : (o : Option ArgumentTree) → option_and_then (λ x. option_and_then (λ a. given c a x) (arg_in args x.name)) o ≡ Some g → P g.arg
    go None e = cc
    go (Some x) e = one x (arg_in args x.name) refl e

-- ---- arguments of which the value alone is read

pub flag_over : (n : Renumbering) (t : ℕ) (o : Option Given) → flag_due (option_map (given_over n t) o) ≡ flag_due o
flag_over n t None = refl
flag_over n t (Some g) = refl

pub text_over : (n : Renumbering) (t : ℕ) (o : Option Given) → text_due (option_map (given_over n t) o) ≡ text_due o
text_over n t None = refl
text_over n t (Some g) = refl

pub rows_over : (n : Renumbering) (t : ℕ) (o : Option Given) → rows_due (option_map (given_over n t) o) ≡ rows_due o
rows_over n t None = refl
rows_over n t (Some g) = refl
