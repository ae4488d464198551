-- Values of a scalar, and of lists of one: constants, or null.
use Rattle.std.proofs.Common.{◌≡◌, ◌∙◌, refl, sym, ap, subst, ℕ, ℤ, pos, negsuc, Bool, true, false, cond, Option, Some, None, Ok, Err, ok_or, is_some, is_ok, option_map, option_and_then}
use Rattle.hq_base.specs.Json.{JsonTree, null, bool, int, str, arr, obj, ElementTrees, no_element, element}
use Rattle.hq_base.specs.Lists.{Each}
use Rattle.hq_base.specs.Look.{element_list, bool_in, str_in}
use Rattle.hq_base.specs.Cells.{cell_of, json_of}
use Rattle.hq_base.specs.Patterns.{pattern_of}
use Rattle.hq_base.specs.declared.value.Ty.{Ty}
use Rattle.hq_base.specs.declared.value.Ty.TheVariants as ty
use Rattle.hq_base.specs.declared.value.Val.{Val}
use Rattle.hq_base.specs.declared.value.Val.TheVariants as val
use Rattle.hq_model.specs.Constants.{constant_in}
use Rattle.hq_model.specs.Database.{int_fits}
use Rattle.hq_model.specs.Tests.{applies}
use Rattle.hq_model.specs.declared.bexp.Operand.TheVariants.{Const}
use Rattle.hq_model.specs.declared.test.Test.{Test}
use Rattle.hq_model.specs.declared.test.Test.TheVariants.{Like}
use Rattle.hq_schema.specs.Fixed.{scalar_type, fixed_place}
use Rattle.hq_schema.specs.Look.{type_at}
use Rattle.hq_schema.specs.Schema.{TypeRefTree, named, list_of, non_null, base, TypeTree, SchemaTree}
use Rattle.hq_schema.specs.declared.fixed.Fixed.TheVariants.{Scalar}
use Rattle.hq_schema.specs.declared.origin.TypeOrigin.TheVariants as type
use Rattle.hq_gql_nodes.specs.Known.{element_type, input_at, is_input}
use Rattle.hq_gql_tree.specs.declared.rule.RuleId.TheVariants.{PatternEscape, ValuesOfCorrectType}
use Rattle.hq_request_coerce.specs.Coercion.{leaf_by, leaf_value}
use Rattle.hq_request_coerce.specs.Coercion as coercion
use Rattle.hq_request_arguments.specs.Keys.{key_value}
use Rattle.hq_request_arguments.specs.Operands.{pattern_due, operand_due, truth_due}
use Rattle.hq_request_arguments.specs.Page.{not_negative, rows_in}
use Rattle.hq_request_arguments.specs.Reading.{items_in, fitting}
use Rattle.hq_request_arguments.specs.declared.refusal.ArgRefusal.TheVariants.{Rule}
use Rattle.hq_laws_request.proofs.Built.Lawful.{Lawful}
use Rattle.hq_laws_request.proofs.Built.Values.{IsOf, AreOf}

-- a type has the constants of its scalar
same_constant : (t : Ty) (j : JsonTree) → constant_in (scalar_type t) j ≡ constant_in t j
same_constant ty.Boolean j = refl
same_constant ty.Integer j = refl
same_constant ty.Text j = refl
same_constant ty.Bigint j = refl
same_constant ty.Uuid j = refl
same_constant ty.Opaque null = refl
same_constant ty.Opaque (bool b) = refl
same_constant ty.Opaque (int n) = refl
same_constant ty.Opaque (str s) = refl
same_constant ty.Opaque (arr js) = refl
same_constant ty.Opaque (obj ms) = refl

-- the scalar of a type stands at its place
pub record IsScalar (s : SchemaTree) (t : Ty) : Type 0 where
  pub own : TypeTree
  pub here : type_at s (fixed_place (Scalar t)) ≡ Some own
  pub means : own.origin ≡ type.Scalar (scalar_type t)
  pub leaf : is_input own.kind ≡ false

-- a constant of the type, or null
abbrev pub ScalarOrNull : Ty → JsonTree → Type 0
ScalarOrNull t j = coercion.is_null j ≡ false → is_some (constant_in t j) ≡ true

module _ (s : SchemaTree) (t : Ty) (is : IsScalar s t) where
  -- a leaf of the scalar
  leaf_constant : (j : JsonTree) → is_some (leaf_value s (fixed_place (Scalar t)) j) ≡ true → is_some (constant_in t j) ≡ true
  leaf_constant j h =
      let first : is_some (leaf_by s (fixed_place (Scalar t)) is.own.origin j) ≡ true =
      ap (λ o. is_some (option_and_then (λ (d : TypeTree). leaf_by s (fixed_place (Scalar t)) d.origin j) o)) (sym is.here) ∙ h in
      let second : is_some (option_map (λ v. json_of (cell_of v)) (constant_in (scalar_type t) j)) ≡ true = ap (λ o. is_some (leaf_by s (fixed_place (Scalar t)) o j)) (sym is.means) ∙ first in
      ap is_some (sym (same_constant t j)) ∙ by (constant_in (scalar_type t) j) second
    where
      by : (o : Option Val) → is_some (option_map (λ v. json_of (cell_of v)) o) ≡ true → is_some o ≡ true
      by None h = absurd cc
      by (Some v) h = refl

  -- no object is one
  no_object : (u : ℕ) → input_at s (fixed_place (Scalar t)) ≡ Some u → ⊥
  no_object u e =
      let first : cond (is_input is.own.kind) (Some (fixed_place (Scalar t))) None ≡ Some u =
      ap (option_and_then (λ (d : TypeTree). cond (is_input d.kind) (Some (fixed_place (Scalar t))) None)) (sym is.here) ∙ e in
      let second : None ≡ Some u = ap (λ b. cond b (Some (fixed_place (Scalar t))) None) (sym is.leaf) ∙ first in
      cc

  -- a value of the scalar
  pub scalar_is : (r : TypeRefTree) → base r ≡ fixed_place (Scalar t) → element_type r ≡ None → (j : JsonTree) → IsOf s r j → ScalarOrNull t j
  scalar_is r place single null h not = absurd cc
  scalar_is r place single (bool b) h not = leaf_constant (bool b) (subst (λ p. is_some (leaf_value s p (bool b)) ≡ true) place h)
  scalar_is r place single (int n) h not = leaf_constant (int n) (subst (λ p. is_some (leaf_value s p (int n)) ≡ true) place h)
  scalar_is r place single (str x) h not = leaf_constant (str x) (subst (λ p. is_some (leaf_value s p (str x)) ≡ true) place h)
  scalar_is r place single (arr js) h not = let no : None ≡ Some h.0 = sym single ∙ h.1 in absurd cc
  scalar_is r place single (obj ms) h not = absurd (no_object h.0 (subst (λ p. input_at s p ≡ Some h.0) place h.1))

  each_scalar : (js : ElementTrees) → AreOf s (non_null (named (fixed_place (Scalar t)))) js → Each (ScalarOrNull t) (element_list js)
  each_scalar no_element h = tt
  each_scalar (element j js) h = (scalar_is (non_null (named (fixed_place (Scalar t)))) refl refl j h.0, each_scalar js h.1)

  -- the items of a list of them
  pub items_scalar : (j : JsonTree) → IsOf s (list_of (non_null (named (fixed_place (Scalar t))))) j → Each (ScalarOrNull t) (items_in j)
  items_scalar null h = ((λ not. absurd cc), tt)
  items_scalar (bool b) h = ((λ not. leaf_constant (bool b) h), tt)
  items_scalar (int n) h = ((λ not. leaf_constant (int n) h), tt)
  items_scalar (str x) h = ((λ not. leaf_constant (str x) h), tt)
  items_scalar (arr js) h = let same : non_null (named (fixed_place (Scalar t))) ≡ h.0 = (let both : Some (non_null (named (fixed_place (Scalar t)))) ≡ Some h.0 = h.1 in cc) in
      each_scalar js (subst (λ q. AreOf s q js) (sym same) h.2)
  items_scalar (obj ms) h = absurd (no_object h.0 h.1)

-- ---- what is read of them

-- a constant
constant_lawful : (j : JsonTree) (o : Option Val) → (coercion.is_null j ≡ false → is_some o ≡ true) → Lawful (fitting j (option_map Const o))
constant_lawful j (Some v) h = tt
constant_lawful null None h = refl
constant_lawful (bool b) None h = let no : false ≡ true = h refl in absurd cc
constant_lawful (int n) None h = let no : false ≡ true = h refl in absurd cc
constant_lawful (str x) None h = let no : false ≡ true = h refl in absurd cc
constant_lawful (arr js) None h = let no : false ≡ true = h refl in absurd cc
constant_lawful (obj ms) None h = let no : false ≡ true = h refl in absurd cc

-- a pattern: it may end in an escape
pattern_lawful : (t : Ty) (fold : Bool) → applies (Like fold) t ≡ true → (j : JsonTree) → ScalarOrNull t j → Lawful (pattern_due j)
pattern_lawful ty.Boolean fold of j h = absurd cc
pattern_lawful ty.Integer fold of j h = absurd cc
pattern_lawful ty.Bigint fold of j h = absurd cc
pattern_lawful ty.Uuid fold of j h = absurd cc
pattern_lawful ty.Opaque fold of j h = absurd cc
pattern_lawful ty.Text fold of null h = refl
pattern_lawful ty.Text fold of (bool b) h = let no : false ≡ true = h refl in absurd cc
pattern_lawful ty.Text fold of (int n) h = let no : false ≡ true = h refl in absurd cc
pattern_lawful ty.Text fold of (str x) h = by (is_ok (pattern_of x))
  where
    by : (b : Bool) → Lawful (cond b (Ok (Const (val.Text x))) (Err (Rule PatternEscape)))
    by true = tt
    by false = refl
pattern_lawful ty.Text fold of (arr js) h = let no : false ≡ true = h refl in absurd cc
pattern_lawful ty.Text fold of (obj ms) h = let no : false ≡ true = h refl in absurd cc

-- an operand
pub operand_lawful : (o : Test) (t : Ty) → applies o t ≡ true → (j : JsonTree) → ScalarOrNull t j → Lawful (operand_due o t j)
operand_lawful (Like fold) t of j h = pattern_lawful t fold of j h
operand_lawful o t of j h = constant_lawful j (constant_in t j) h

-- whether a test without operands is to hold
pub truth_lawful : (j : JsonTree) → ScalarOrNull ty.Boolean j → Lawful (truth_due j)
truth_lawful null h = refl
truth_lawful (bool b) h = tt
truth_lawful (int n) h = let no : false ≡ true = h refl in absurd cc
truth_lawful (str x) h = let no : false ≡ true = h refl in absurd cc
truth_lawful (arr js) h = let no : false ≡ true = h refl in absurd cc
truth_lawful (obj ms) h = let no : false ≡ true = h refl in absurd cc

-- a truth value, a text, and a number of rows, where there is no null
pub flag_is : (j : JsonTree) → coercion.is_null j ≡ false → ScalarOrNull ty.Boolean j → is_some (bool_in j) ≡ true
flag_is null never h = absurd cc
flag_is (bool b) never h = refl
flag_is (int n) never h = absurd (let q : false ≡ true = h refl in cc)
flag_is (str x) never h = absurd (let q : false ≡ true = h refl in cc)
flag_is (arr js) never h = absurd (let q : false ≡ true = h refl in cc)
flag_is (obj ms) never h = absurd (let q : false ≡ true = h refl in cc)

pub text_is : (j : JsonTree) → coercion.is_null j ≡ false → ScalarOrNull ty.Text j → is_some (str_in j) ≡ true
text_is null never h = absurd cc
text_is (bool b) never h = absurd (let q : false ≡ true = h refl in cc)
text_is (int n) never h = absurd (let q : false ≡ true = h refl in cc)
text_is (str x) never h = refl
text_is (arr js) never h = absurd (let q : false ≡ true = h refl in cc)
text_is (obj ms) never h = absurd (let q : false ≡ true = h refl in cc)

pub rows_lawful : (j : JsonTree) → coercion.is_null j ≡ false → ScalarOrNull ty.Integer j → Lawful (rows_in j)
rows_lawful null never h = absurd cc
rows_lawful (bool b) never h = absurd (let q : false ≡ true = h refl in cc)
rows_lawful (str x) never h = absurd (let q : false ≡ true = h refl in cc)
rows_lawful (arr js) never h = absurd (let q : false ≡ true = h refl in cc)
rows_lawful (obj ms) never h = absurd (let q : false ≡ true = h refl in cc)
rows_lawful (int n) never h = by (int_fits ty.Integer n) (h refl)
  where
    signed : (k : ℤ) → Lawful (not_negative k)
    signed (pos k) = tt
    signed (negsuc k) = refl

    by : (b : Bool) → is_some (cond b (Some (val.Int n)) None) ≡ true → Lawful (cond b (not_negative n) (Err (Rule ValuesOfCorrectType)))
    by true e = signed n
    by false e = absurd cc

pub key_lawful : (t : Ty) (j : JsonTree) → coercion.is_null j ≡ false → ScalarOrNull t j → Lawful (key_value t j)
key_lawful t j never h = by (constant_in t j) (h never)
  where
    by : (o : Option Val) → is_some o ≡ true → Lawful (ok_or o (Rule ValuesOfCorrectType))
    by None e = absurd cc
    by (Some v) e = tt
