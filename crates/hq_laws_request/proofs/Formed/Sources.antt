-- How many objects stand in one another in the JSON of a document's values: no more than its brackets, and those of a variable's
-- value.
use Rattle.std.proofs.Common.{◌≡◌, ◌∙◌, refl, sym, ap, subst, ℕ, suc, ◌+◌, ◌≤◌, max, arith, List, [], ◌∷◌, Option, Some, None, ℤ, option_and_then, find, bytes_eq}
use Rattle.hq_base.specs.Json.{JsonTree, elements_of, members_of}
use Rattle.hq_base.specs.Json as json
use Rattle.hq_base.specs.Lists.{Each}
use Rattle.hq_base.specs.declared.value.Ty.TheVariants.{Bigint}
use Rattle.hq_model.specs.Reading.{whole_number}
use Rattle.hq_schema.specs.Look.{arg_in}
use Rattle.hq_schema.specs.Schema.{ArgTree}
use Rattle.hq_gql_tree.specs.Nesting.{value_nest, arguments_nest}
use Rattle.hq_gql_tree.specs.Nesting as text
use Rattle.hq_gql_tree.specs.Values.{ValueTree, int, float, str, bool, null, enum, list, object, variable, ElementTrees, no_element, element, MemberTrees, no_member, member, ArgumentTree}
use Rattle.hq_request_coerce.specs.Sources.{int_or_null, number_of, source_of, with_element, with_member, element_sources, member_sources}
use Rattle.hq_request_coerce.specs.Variables.{VarTree, var_value}
use Rattle.hq_request_arguments.specs.Context.{Context}
use Rattle.hq_request_arguments.specs.Reading.{Given, unless_null, given, argument_named, given_named}
use Rattle.hq_laws_request.specs.Formed.ObjectsNest.{objects_nest, elements_nest, members_nest}
use Rattle.hq_laws_request.proofs.Formed.Items.{found_each}
use Rattle.hq_laws_request.proofs.Formed.BuildingSteps.{map_some, and_then_some}

number_low : (text : List ℕ) → objects_nest (number_of text) ≡ 0
unfolding number_of
number_low text = by (whole_number Bigint text)
  where
    by : (o : Option ℤ) → objects_nest (int_or_null o) ≡ 0
    by (Some n) = refl
    by None = refl

module _ (h : ℕ) (vars : List VarTree) (low : Each (λ v. objects_nest v.value ≤ h) vars) where
  variable_low : (name : List ℕ) (j : JsonTree) → var_value vars name ≡ Some j → objects_nest j ≤ h
  variable_low name j e =
      let found = map_some (λ (v : VarTree). v.value) (find (λ (v : VarTree). bytes_eq v.name name) vars) j e in
      subst (λ i. objects_nest i ≤ h) found.2 (found_each (λ v. objects_nest v.value ≤ h) (λ (v : VarTree). bytes_eq v.name name) vars found.0 found.1 low).0

  with_element_low : (o : Option JsonTree) (js : List JsonTree) (n k : ℕ) → ((j : JsonTree) → o ≡ Some j → objects_nest j ≤ n + h) → elements_nest (elements_of js) ≤ k + h
      → elements_nest (elements_of (with_element o js)) ≤ max n k + h
  with_element_low (Some j) js n k here later = let now : objects_nest j ≤ n + h = here j refl in omega (arith, now, later)
  with_element_low None js n k here later = omega (arith, later)

  with_member_low : (name : List ℕ) (o : Option JsonTree) (ms : List (List ℕ × JsonTree)) (n k : ℕ) → ((j : JsonTree) → o ≡ Some j → objects_nest j ≤ n + h) → members_nest (members_of ms) ≤ k + h
      → members_nest (members_of (with_member name o ms)) ≤ max n k + h
  with_member_low name (Some j) ms n k here later = let now : objects_nest j ≤ n + h = here j refl in omega (arith, now, later)
  with_member_low name None ms n k here later = omega (arith, later)

  mutual
    pub source_low : (v : ValueTree) (j : JsonTree) → source_of vars v ≡ Some j → objects_nest j ≤ value_nest v + h
    source_low (int text) j e = let same : number_of text ≡ j = cc in let none : objects_nest j ≡ 0 = ap objects_nest (sym same) ∙ number_low text in omega (arith, none)
    source_low (float text) j e = let same : json.null ≡ j = cc in let none : 0 ≡ objects_nest j = ap objects_nest same in omega (arith, none)
    source_low (str text) j e = let same : json.str text ≡ j = cc in let none : 0 ≡ objects_nest j = ap objects_nest same in omega (arith, none)
    source_low (bool b) j e = let same : json.bool b ≡ j = cc in let none : 0 ≡ objects_nest j = ap objects_nest same in omega (arith, none)
    source_low null j e = let same : json.null ≡ j = cc in let none : 0 ≡ objects_nest j = ap objects_nest same in omega (arith, none)
    source_low (enum name) j e = let same : json.str name ≡ j = cc in let none : 0 ≡ objects_nest j = ap objects_nest same in omega (arith, none)
    source_low (list vs) j e =
        let same : json.arr (elements_of (element_sources vars vs)) ≡ j = cc in
        let is : elements_nest (elements_of (element_sources vars vs)) ≡ objects_nest j = ap objects_nest same in
        let below : elements_nest (elements_of (element_sources vars vs)) ≤ text.elements_nest vs + h = elements_low vs in
        omega (arith, is, below)
    source_low (object ms) j e =
        let same : json.obj (members_of (member_sources vars ms)) ≡ j = cc in
        let is : suc (members_nest (members_of (member_sources vars ms))) ≡ objects_nest j = ap objects_nest same in
        let below : members_nest (members_of (member_sources vars ms)) ≤ text.members_nest ms + h = members_low ms in
        omega (arith, is, below)
    source_low (variable name) j e = let below : objects_nest j ≤ h = variable_low name j e in omega (arith, below)

    elements_low : (vs : ElementTrees) → elements_nest (elements_of (element_sources vars vs)) ≤ text.elements_nest vs + h
    elements_low no_element = omega arith
    elements_low (element at v vs) =
        with_element_low (source_of vars v) (element_sources vars vs) (value_nest v) (text.elements_nest vs) (λ j e. source_low v j e) (elements_low vs)

    members_low : (ms : MemberTrees) → members_nest (members_of (member_sources vars ms)) ≤ text.members_nest ms + h
    members_low no_member = omega arith
    members_low (member at name value_at v ms) =
        with_member_low name (source_of vars v) (member_sources vars ms) (value_nest v) (text.members_nest ms) (λ j e. source_low v j e) (members_low ms)

-- the values of arguments
arguments_low : (n : ℕ) (xs : List ArgumentTree) → arguments_nest xs ≤ n → Each (λ x. value_nest x.value.value ≤ n) xs
arguments_low n [] h = tt
arguments_low n (x ∷ xs) h = (omega (arith, h), arguments_low n xs (omega (arith, h)))

not_null : (j i : JsonTree) → unless_null j ≡ Some i → j ≡ i
not_null json.null i e = cc
not_null (json.bool b) i e = cc
not_null (json.int n) i e = cc
not_null (json.str s) i e = cc
not_null (json.arr js) i e = cc
not_null (json.obj ms) i e = cc

-- an argument that is given is one of its field, and its value nests no deeper than its text and a variable's value together
pub given_low : (P : ArgTree → Type 0) (c : Context) (args : List ArgTree) (xs : List ArgumentTree) (name : List ℕ) (g : Given) → Each P args
    → arguments_nest xs ≤ 50 → Each (λ v. objects_nest v.value ≤ 127) c.vars → given_named c args xs name ≡ Some g → P g.arg × (objects_nest g.value ≤ 177)
given_low P c args xs name g fit shallow low e =
    let one = and_then_some (λ (x : ArgumentTree). option_and_then (λ a. given c a x) (arg_in args x.name)) (argument_named xs name) g e in
    let x : ArgumentTree = one.0 in
    let two = and_then_some (λ a. given c a x) (arg_in args x.name) g one.2 in
    let three = map_some (λ (j : JsonTree). let r : Given = record { arg = two.0; value = j } in r) (option_and_then unless_null (source_of c.vars x.value.value)) g two.2 in
    let four = and_then_some unless_null (source_of c.vars x.value.value) three.0 three.1 in
    let same : four.0 ≡ three.0 = not_null four.0 three.0 four.2 in
    let nest : value_nest x.value.value ≤ 50 = (found_each (λ x. value_nest x.value.value ≤ 50) (λ (y : ArgumentTree). bytes_eq y.name name) xs x one.1 (arguments_low 50 xs shallow)).0 in
    let deep : objects_nest four.0 ≤ value_nest x.value.value + 127 = source_low 127 c.vars low x.value.value four.0 four.1 in
    let here : objects_nest three.0 ≤ 177 = subst (λ j. objects_nest j ≤ 177) same (omega (arith, nest, deep)) in (
      subst (λ (r : Given). P r.arg) three.2 (found_each P (λ (y : ArgTree). bytes_eq y.name x.name) args two.0 two.1 fit).0,
      subst (λ (r : Given). objects_nest r.value ≤ 177) three.2 here,
    )
