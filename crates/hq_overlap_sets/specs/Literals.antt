-- Values as arguments compare them, without where they stand (GraphQL October 2021, 5.3.2): numbers by their spelling, strings by
-- their content, lists and objects in the order of the text; values of different kinds differ.
use Rattle.std.specs.Prelude.{◌≡◌, ℕ, List, [], ◌∷◌, Bool, true, false, cond, ◌&&◌, ◌==◌, Option, Some, None, option_map, bytes_eq, find}
use Rattle.std.specs.Borrow.{Bor}
use Rattle.std.specs.HashMap.{HashMap}
use Rattle.std.specs.List.{list_all}
use Rattle.hq_gql_nodes.specs.Names.{get_name}
use Rattle.hq_gql_tree.specs.declared.value.Value.{Value}
use Rattle.hq_gql_tree.specs.Values.{ValueTree, int, float, str, bool, null, enum, variable, ElementTrees, MemberTrees, PlacedTree, ArgumentTree, value_view}
use Rattle.hq_gql_tree.specs.Values as tree

-- a value without parts is its kind and its text
mutual
  pub data BareTree : Type 0 where
    leaf : (kind : ℕ) → (text : List ℕ) → BareTree
    list : BareElements → BareTree
    object : BareMembers → BareTree

  pub data BareElements : Type 0 where
    no_element : BareElements
    element : BareTree → BareElements → BareElements

  pub data BareMembers : Type 0 where
    no_member : BareMembers
    member : (name : List ℕ) → BareTree → BareMembers → BareMembers

abbrev mutual
  pub bare : ValueTree → BareTree
  bare (int text) = leaf 0 text
  bare (float text) = leaf 1 text
  bare (str text) = leaf 2 text
  bare (bool b) = leaf 3 (cond b (1 ∷ []) [])
  bare null = leaf 4 []
  bare (enum name) = leaf 5 name
  bare (tree.list vs) = list (bare_elements vs)
  bare (tree.object ms) = object (bare_members ms)
  bare (variable name) = leaf 6 name

  pub bare_elements : ElementTrees → BareElements
  bare_elements tree.no_element = no_element
  bare_elements (tree.element at v vs) = element (bare v) (bare_elements vs)

  pub bare_members : MemberTrees → BareMembers
  bare_members tree.no_member = no_member
  bare_members (tree.member at name value_at v ms) = member name (bare v) (bare_members ms)

-- the test of two values
abbrev mutual
  pub same_value : BareTree → BareTree → Bool
  same_value (leaf k x) (leaf l y) = (k == l) && bytes_eq x y
  same_value (leaf k x) (list ys) = false
  same_value (leaf k x) (object ys) = false
  same_value (list xs) (leaf l y) = false
  same_value (list xs) (list ys) = same_elements xs ys
  same_value (list xs) (object ys) = false
  same_value (object xs) (leaf l y) = false
  same_value (object xs) (list ys) = false
  same_value (object xs) (object ys) = same_members xs ys

  pub same_elements : BareElements → BareElements → Bool
  same_elements no_element no_element = true
  same_elements no_element (element y ys) = false
  same_elements (element x xs) no_element = false
  same_elements (element x xs) (element y ys) = same_value x y && same_elements xs ys

  pub same_members : BareMembers → BareMembers → Bool
  same_members no_member no_member = true
  same_members no_member (member n y ys) = false
  same_members (member m x xs) no_member = false
  same_members (member m x xs) (member n y ys) = bytes_eq m n && (same_value x y && same_members xs ys)

-- of two elements, and of two members, where there is a second one
abbrev pub same_at : PlacedTree → Option PlacedTree → Bool
same_at p None = false
same_at p (Some q) = same_value (bare p.value) (bare q.value)

abbrev pub same_member_at : ArgumentTree → Option ArgumentTree → Bool
same_member_at a None = false
same_member_at a (Some b) = bytes_eq a.name b.name && same_value (bare a.value.value) (bare b.value.value)

-- what each name has first in a list of arguments
abbrev pub Given : Type 0
Given = (name : List ℕ) → Option BareTree

abbrev pub arguments_of : List ArgumentTree → Given
arguments_of args name = option_map (λ a. bare a.value.value) (find (λ a. bytes_eq a.name name) args)

-- two lists of arguments are equal where each name has the same value first in both
abbrev pub SameArguments : List ArgumentTree → List ArgumentTree → Type 0
SameArguments left right = (name : List ℕ) → arguments_of left name ≡ arguments_of right name

-- the test of two lists of arguments: by the names of either
abbrev pub same_given : Option BareTree → Option BareTree → Bool
same_given None None = true
same_given None (Some w) = false
same_given (Some v) None = false
same_given (Some v) (Some w) = same_value v w

abbrev pub agree_on : Given → Given → (names : List ArgumentTree) → Bool
agree_on left right names = list_all (λ a. same_given (left a.name) (right a.name)) names

abbrev pub same_arguments : List ArgumentTree → List ArgumentTree → Bool
same_arguments left right =
    agree_on (arguments_of left) (arguments_of right) left && agree_on (arguments_of left) (arguments_of right) right

-- what a map of values has at each name
abbrev pub given_in : {S : Type 0} → HashMap (Bor (List ℕ)) (Bor Value) S → Given
given_in values name = option_map (λ v. bare (value_view v.now)) (get_name values name)
