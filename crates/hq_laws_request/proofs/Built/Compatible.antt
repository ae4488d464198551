-- A value of a type is one of each type that the type goes with (GraphQL October 2021, 5.8.5).
use Rattle.std.proofs.Common.{◌≡◌, refl, subst, true, false, Some, is_some}
use Rattle.std.proofs.lemmas.Bool.{eqb-true}
use Rattle.hq_base.specs.Json.{JsonTree, null, bool, int, str, arr, obj, ElementTrees, no_element, element}
use Rattle.hq_schema.specs.Schema.{TypeRefTree, named, list_of, non_null, base, SchemaTree}
use Rattle.hq_gql_nodes.specs.Known.{element_type, input_at, is_non_null}
use Rattle.hq_rules_reach.specs.Variables.{are_compatible}
use Rattle.hq_request_coerce.specs.Coercion.{leaf_value}
use Rattle.hq_laws_request.proofs.Built.Values.{IsOf, AreOf}

pub compatible_base : (r q : TypeRefTree) → are_compatible r q ≡ true → base r ≡ base q
compatible_base (named a) (named b) h = eqb-true a b h
compatible_base (named a) (list_of q) h = absurd cc
compatible_base (named a) (non_null q) h = absurd cc
compatible_base (list_of r) (named b) h = absurd cc
compatible_base (list_of r) (list_of q) h = compatible_base r q h
compatible_base (list_of r) (non_null q) h = absurd cc
compatible_base (non_null r) (named b) h = compatible_base r (named b) h
compatible_base (non_null r) (list_of q) h = compatible_base r (list_of q) h
compatible_base (non_null r) (non_null q) h = compatible_base r q h

compatible_element : (r q e : TypeRefTree) → are_compatible r q ≡ true → element_type r ≡ Some e → (f : TypeRefTree) × (element_type q ≡ Some f) × (are_compatible e f ≡ true)
compatible_element (named a) q e h is = absurd cc
compatible_element (list_of r) (named b) e h is = absurd cc
compatible_element (list_of r) (list_of q) e h is = let same : r ≡ e = cc in (q, refl, subst (λ x. are_compatible x q ≡ true) same h)
compatible_element (list_of r) (non_null q) e h is = absurd cc
compatible_element (non_null r) (named b) e h is = compatible_element r (named b) e h is
compatible_element (non_null r) (list_of q) e h is = compatible_element r (list_of q) e h is
compatible_element (non_null r) (non_null q) e h is = compatible_element r q e h is

compatible_null : (r q : TypeRefTree) → are_compatible r q ≡ true → is_non_null r ≡ false → is_non_null q ≡ false
compatible_null (named a) (named b) h is = refl
compatible_null (named a) (list_of q) h is = refl
compatible_null (named a) (non_null q) h is = absurd cc
compatible_null (list_of r) (named b) h is = refl
compatible_null (list_of r) (list_of q) h is = refl
compatible_null (list_of r) (non_null q) h is = absurd cc
compatible_null (non_null r) q h is = absurd cc

mutual
  -- a value of a type is one of each type that the type goes with
  pub compatible_is : (s : SchemaTree) (j : JsonTree) (r q : TypeRefTree) → are_compatible r q ≡ true → IsOf s r j → IsOf s q j
  compatible_is s null r q h is = compatible_null r q h is
  compatible_is s (bool b) r q h is = subst (λ t. is_some (leaf_value s t (bool b)) ≡ true) (compatible_base r q h) is
  compatible_is s (int n) r q h is = subst (λ t. is_some (leaf_value s t (int n)) ≡ true) (compatible_base r q h) is
  compatible_is s (str x) r q h is = subst (λ t. is_some (leaf_value s t (str x)) ≡ true) (compatible_base r q h) is
  compatible_is s (arr js) r q h is = let other = compatible_element r q is.0 h is.1 in (other.0, other.1, compatible_are s js is.0 other.0 other.2 is.2)
  compatible_is s (obj ms) r q h is = (is.0, subst (λ t. input_at s t ≡ Some is.0) (compatible_base r q h) is.1, is.2)

  compatible_are : (s : SchemaTree) (js : ElementTrees) (r q : TypeRefTree) → are_compatible r q ≡ true → AreOf s r js → AreOf s q js
  compatible_are s no_element r q h are = tt
  compatible_are s (element j js) r q h are = (compatible_is s j r q h are.0, compatible_are s js r q h are.1)
