-- Values, arguments and directives without where they lie in memory (GraphQL October 2021, 2.6, 2.9, 2.12).
use Rattle.std.specs.Prelude.{ℕ, Bool, List, [], ◌∷◌, map}
use Rattle.hq_gql_tree.specs.declared.value.Value.{Value, fold-Value}
use Rattle.hq_gql_tree.specs.declared.value.Placed.{Placed, fold-Placed}
use Rattle.hq_gql_tree.specs.declared.value.Argument.{Argument, fold-Argument}
use Rattle.hq_gql_tree.specs.declared.value.Value.TheOpen.{Value-F, Placed-F, Argument-F}
use Rattle.hq_gql_tree.specs.declared.value.Directive.{Directive}

-- a value; elements and members stand in the order of the text
mutual
  pub data ValueTree : Type 0 where
    int : List ℕ → ValueTree
    float : List ℕ → ValueTree
    str : List ℕ → ValueTree
    bool : Bool → ValueTree
    null : ValueTree
    enum : List ℕ → ValueTree
    list : ElementTrees → ValueTree
    object : MemberTrees → ValueTree
    variable : List ℕ → ValueTree

  pub data ElementTrees : Type 0 where
    no_element : ElementTrees
    element : (at : ℕ) → ValueTree → ElementTrees → ElementTrees

  pub data MemberTrees : Type 0 where
    no_member : MemberTrees
    member : (at : ℕ) (name : List ℕ) → (value_at : ℕ) → ValueTree → MemberTrees → MemberTrees

-- a value and its place
pub record PlacedTree : Type 0 where
  pub at : ℕ
  pub value : ValueTree

-- an argument, or a member of an object
pub record ArgumentTree : Type 0 where
  pub at : ℕ
  pub name : List ℕ
  pub value : PlacedTree

-- the elements and the members of a list
abbrev pub elements_of : List PlacedTree → ElementTrees
elements_of [] = no_element
elements_of (v ∷ vs) = element v.at v.value (elements_of vs)

abbrev pub members_of : List ArgumentTree → MemberTrees
members_of [] = no_member
members_of (a ∷ more) = member a.at a.name a.value.at a.value.value (members_of more)

-- the list of elements, and of members
abbrev pub elements_in : ElementTrees → List PlacedTree
elements_in no_element = []
elements_in (element at v vs) = record { at = at; value = v } ∷ elements_in vs

abbrev pub members_in : MemberTrees → List ArgumentTree
members_in no_member = []
members_in (member at name value_at v more) = record { at = at; name = name; value = record { at = value_at; value = v } } ∷ members_in more

-- one level of a value, whose parts are seen already
abbrev pub value_step : Value-F ValueTree ArgumentTree PlacedTree → ValueTree
value_step (Value-F.Int text) = int text
value_step (Value-F.Float text) = float text
value_step (Value-F.Str text) = str text
value_step (Value-F.Bool b) = bool b
value_step Value-F.Null = null
value_step (Value-F.Enum name) = enum name
value_step (Value-F.List vs) = list (elements_of vs.items)
value_step (Value-F.Object ms) = object (members_of ms.items)
value_step (Value-F.Variable name) = variable name

abbrev pub placed_step : Placed-F ValueTree ArgumentTree PlacedTree → PlacedTree
placed_step p = record { at = p.at; value = p.value }

abbrev pub argument_step : Argument-F ValueTree ArgumentTree PlacedTree → ArgumentTree
argument_step a = record { at = a.at; name = a.name; value = a.value }

-- what each is seen as
abbrev pub value_view : Value → ValueTree
value_view = fold-Value ValueTree ArgumentTree PlacedTree value_step argument_step placed_step

abbrev pub placed_view : Placed → PlacedTree
placed_view = fold-Placed ValueTree ArgumentTree PlacedTree value_step argument_step placed_step

abbrev pub argument_view : Argument → ArgumentTree
argument_view = fold-Argument ValueTree ArgumentTree PlacedTree value_step argument_step placed_step

-- a directive
pub record DirectiveTree : Type 0 where
  pub at : ℕ
  pub name : List ℕ
  pub args : List ArgumentTree

abbrev pub directive_view : Directive → DirectiveTree
directive_view d = record { at = d.at; name = d.name; args = map argument_view d.args.items }
