-- What a value is coerced to nests its objects no deeper than the value.
use Rattle.std.proofs.Common.{◌≡◌, ℕ, suc, ◌≤◌, max, List, [], ◌∷◌, ◌++◌, Bool, true, false, cond, Option, Some, None, refl, subst, arith, option_map, option_and_then}
use Rattle.std.specs.Prelude.{not, ◌&&◌}
use Rattle.std.specs.List.{filter_map, list_any, cons_option}
use Rattle.hq_laws_request.specs.Formed.ObjectsNest.{objects_nest, elements_nest, members_nest}
use Rattle.hq_base.specs.Cells.{cell_of, json_of}
use Rattle.hq_base.specs.Json.{JsonTree, null, bool, int, str, arr, obj, ElementTrees, no_element, element, MemberTrees, no_member, member, elements_of, members_of, names_of}
use Rattle.hq_base.specs.declared.value.Ty.{Ty}
use Rattle.hq_base.specs.declared.value.Val.{Val}
use Rattle.hq_base.specs.declared.value.Val.TheVariants as val
use Rattle.hq_model.specs.Constants.{constant_in}
use Rattle.hq_request_coerce.specs.Coercion.{is_non_null, null_value, scalar_value, enum_value, leaf_by, leaf_value, in_lists, is_given, is_lacking, default_member, object_of, inputs_at, coerced, coerced_elements, coerced_members}
use Rattle.hq_gql_nodes.specs.Known.{element_type, input_at}
use Rattle.hq_schema.specs.Look.{type_at, input_field_of, enum_value_of}
use Rattle.hq_schema.specs.Schema.{TypeRefTree, named, list_of, non_null, base, ArgTree, SchemaTree}
use Rattle.hq_schema.specs.declared.origin.TypeOrigin.{TypeOrigin}
use Rattle.hq_schema.specs.declared.origin.TypeOrigin.TheVariants as origin
use Rattle.hq_laws_request.proofs.Formed.Steps.{map_some, and_then_some}

-- ---- values without objects

abbrev Flat : JsonTree → Type 0
Flat j = objects_nest j ≡ 0

flat_under : {A : Type 0} (f : A → JsonTree) (o : Option A) (x : JsonTree) → ((a : A) → Flat (f a)) → option_map f o ≡ Some x → Flat x
flat_under f (Some a) x flat h = let same : f a ≡ x = cc in subst Flat same (flat a)
flat_under f None x flat h = absurd cc

value_flat : (v : Val) → Flat (json_of (cell_of v))
value_flat val.Null = refl
value_flat (val.Int n) = refl
value_flat (val.Text s) = refl
value_flat (val.Bool b) = refl

scalar_flat : (ty : Ty) (j x : JsonTree) → scalar_value ty j ≡ Some x → Flat x
scalar_flat ty j x h = flat_under (λ v. json_of (cell_of v)) (constant_in ty j) x value_flat h

enum_flat : (s : SchemaTree) (t : ℕ) (j x : JsonTree) → enum_value s t j ≡ Some x → Flat x
enum_flat s t null x h = absurd cc
enum_flat s t (bool b) x h = absurd cc
enum_flat s t (int n) x h = absurd cc
enum_flat s t (str name) x h = flat_under (λ place. str name) (enum_value_of s t name) x (λ a. refl) h
enum_flat s t (arr js) x h = absurd cc
enum_flat s t (obj ms) x h = absurd cc

by_flat : (s : SchemaTree) (t : ℕ) (o : TypeOrigin) (j x : JsonTree) → leaf_by s t o j ≡ Some x → Flat x
by_flat s t (origin.Scalar ty) j x h = scalar_flat ty j x h
by_flat s t o j x h = enum_flat s t j x h

leaf_flat : (s : SchemaTree) (t : ℕ) (j x : JsonTree) → leaf_value s t j ≡ Some x → Flat x
leaf_flat s t j x h = let p = and_then_some (λ d. leaf_by s t d.origin j) (type_at s t) x h in by_flat s t p.0.origin j x p.2

-- ---- lists of one, and defaults

-- a list of one nests as its item
in_lists_nest : (r : TypeRefTree) (j : JsonTree) → objects_nest (in_lists r j) ≤ objects_nest j
in_lists_nest (named t) j = omega arith
in_lists_nest (list_of r) j = let below = in_lists_nest r j in omega arith
in_lists_nest (non_null r) j = in_lists_nest r j

leaf_nests : (s : SchemaTree) (r : TypeRefTree) (j x : JsonTree) → option_map (in_lists r) (leaf_value s (base r) j) ≡ Some x → objects_nest x ≤ 0
leaf_nests s r j x h =
    let p = map_some (in_lists r) (leaf_value s (base r) j) x h in
    let flat = leaf_flat s (base r) j p.0 p.1 in
    let within = in_lists_nest r p.0 in
    subst (λ y. objects_nest y ≤ 0) p.2 (omega arith)

-- members that stand behind others nest no deeper where they are flat
abbrev pairs_nest : List (List ℕ × JsonTree) → ℕ
pairs_nest ms = members_nest (members_of ms)

default_flat : (given : List (List ℕ)) (a : ArgTree) (more : List (List ℕ × JsonTree)) → pairs_nest more ≤ 0 → pairs_nest (cons_option (default_member given a) more) ≤ 0
default_flat given a more h =
    let go : (b : Bool) → pairs_nest (cons_option (cond b (Some (a.name, bool false)) None) more) ≤ 0 = elim [ true ↦ omega arith | false ↦ h ] in
    go (a.default_false && not (is_given given a.name))

defaults_flat : (given : List (List ℕ)) (inputs : List ArgTree) → pairs_nest (filter_map (default_member given) inputs) ≤ 0
defaults_flat given [] = omega arith
defaults_flat given (a ∷ more) = default_flat given a (filter_map (default_member given) more) (defaults_flat given more)

behind_nest : (ms more : List (List ℕ × JsonTree)) (n : ℕ) → pairs_nest ms ≤ n → pairs_nest more ≤ 0 → pairs_nest (ms ++ more) ≤ n
behind_nest [] more n h k = omega arith
behind_nest (m ∷ ms) more n h k = let rest = behind_nest ms more n (omega arith) k in omega arith

object_nests : (given : List (List ℕ)) (inputs : List ArgTree) (ms : List (List ℕ × JsonTree)) (x : JsonTree) (n : ℕ) → pairs_nest ms ≤ n → object_of given inputs ms ≡ Some x → objects_nest x ≤ suc n
object_nests given inputs ms x n h e =
    let within = behind_nest ms (filter_map (default_member given) inputs) n h (defaults_flat given inputs) in
    let go : (b : Bool) → cond b None (Some (obj (members_of (ms ++ filter_map (default_member given) inputs)))) ≡ Some x → objects_nest x ≤ suc n =
    elim [
      | true ↦ λ k. absurd cc
      | false ↦ λ k. let same : obj (members_of (ms ++ filter_map (default_member given) inputs)) ≡ x = cc in subst (λ y. objects_nest y ≤ suc n) same (omega arith)
    ] in
    go (list_any (is_lacking given) inputs) e

null_nests : (r : TypeRefTree) (x : JsonTree) → null_value r ≡ Some x → objects_nest x ≤ 0
null_nests r x h =
    let go : (b : Bool) → cond b None (Some null) ≡ Some x → objects_nest x ≤ 0 =
    elim [ true ↦ λ k. absurd cc | false ↦ λ k. let same : null ≡ x = cc in subst (λ y. objects_nest y ≤ 0) same (omega arith) ] in
    go (is_non_null r) h

-- ---- values

mutual
  pub coerced_nests : (s : SchemaTree) (j : JsonTree) (r : TypeRefTree) (x : JsonTree) → coerced s j r ≡ Some x → objects_nest x ≤ objects_nest j
  coerced_nests s null r x h = null_nests r x h
  coerced_nests s (bool b) r x h = leaf_nests s r (bool b) x h
  coerced_nests s (int n) r x h = leaf_nests s r (int n) x h
  coerced_nests s (str y) r x h = leaf_nests s r (str y) x h
  coerced_nests s (arr js) r x h =
      let p = map_some (λ xs. arr (elements_of xs)) (option_and_then (λ item. coerced_elements s js item) (element_type r)) x h in
      let q = and_then_some (λ item. coerced_elements s js item) (element_type r) p.0 p.1 in
      let within = elements_coerced s js q.0 p.0 q.2 in
      subst (λ y. objects_nest y ≤ elements_nest js) p.2 (omega arith)
  coerced_nests s (obj ms) r x h =
      let p = map_some (in_lists r) (option_and_then (λ t. option_and_then (object_of (names_of ms) (inputs_at s t)) (coerced_members s ms t)) (input_at s (base r))) x h in
      let q = and_then_some (λ t. option_and_then (object_of (names_of ms) (inputs_at s t)) (coerced_members s ms t)) (input_at s (base r)) p.0 p.1 in
      let m = and_then_some (object_of (names_of ms) (inputs_at s q.0)) (coerced_members s ms q.0) p.0 q.2 in
      let within = object_nests (names_of ms) (inputs_at s q.0) m.0 p.0 (members_nest ms) (members_coerced s ms q.0 m.0 m.1) m.2 in
      let listed = in_lists_nest r p.0 in
      subst (λ y. objects_nest y ≤ suc (members_nest ms)) p.2 (omega arith)

  elements_coerced : (s : SchemaTree) (js : ElementTrees) (r : TypeRefTree) (xs : List JsonTree) → coerced_elements s js r ≡ Some xs → elements_nest (elements_of xs) ≤ elements_nest js
  elements_coerced s no_element r xs h = let same : [] ≡ xs = cc in subst (λ ys. elements_nest (elements_of ys) ≤ 0) same (omega arith)
  elements_coerced s (element j js) r xs h =
      let p = and_then_some (λ x. option_map (λ ys. x ∷ ys) (coerced_elements s js r)) (coerced s j r) xs h in
      let q = map_some (λ ys. p.0 ∷ ys) (coerced_elements s js r) xs p.2 in
      let first = coerced_nests s j r p.0 p.1 in
      let others = elements_coerced s js r q.0 q.1 in
      subst (λ ys. elements_nest (elements_of ys) ≤ max (objects_nest j) (elements_nest js)) q.2 (omega arith)

  members_coerced : (s : SchemaTree) (ms : MemberTrees) (t : ℕ) (xs : List (List ℕ × JsonTree)) → coerced_members s ms t ≡ Some xs → pairs_nest xs ≤ members_nest ms
  members_coerced s no_member t xs h = let same : [] ≡ xs = cc in subst (λ ys. pairs_nest ys ≤ 0) same (omega arith)
  members_coerced s (member name j ms) t xs h =
      let p = and_then_some (λ x. option_map (λ ys. (name, x) ∷ ys) (coerced_members s ms t)) (option_and_then (λ a. coerced s j a.ty) (input_field_of s t name)) xs h in
      let q = map_some (λ ys. (name, p.0) ∷ ys) (coerced_members s ms t) xs p.2 in
      let a = and_then_some (λ a. coerced s j a.ty) (input_field_of s t name) p.0 p.1 in
      let first = coerced_nests s j a.0.ty p.0 a.2 in
      let others = members_coerced s ms t q.0 q.1 in
      subst (λ ys. pairs_nest ys ≤ max (objects_nest j) (members_nest ms)) q.2 (omega arith)
