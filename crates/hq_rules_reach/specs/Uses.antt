-- The uses of variables in a document.
use Rattle.std.specs.Prelude.{◌≡◌, ℕ, ◌<◌, List, [], map, Option, Some, None, option_map, slice_index_or, Vec}
use Rattle.std.specs.declared.alloc.Global.{Global}
use Rattle.std.specs.List.{All, filter_map}
use Rattle.hq_gql_tree.specs.Values.{ValueTree, variable}
use Rattle.hq_gql_nodes.specs.Fragments.{Places}
use Rattle.hq_gql_nodes.specs.Known.{PlaceTree, place_view}
use Rattle.hq_gql_nodes.specs.Nodes.{NodeTree, value_node, PartTree}
use Rattle.hq_rules_reach.specs.declared.uses.Use.{Use}

-- a use of a variable, told by its name or by the number of that, where it stands, and the place that takes its value
pub record UseTree (N : Type 0) : Type 0 where
  pub name : N
  pub at : ℕ
  pub place : Option PlaceTree

-- what a use is seen as by its name, and by its number
abbrev pub use_view : Use → UseTree (List ℕ)
use_view u = record { name = u.name.now; at = u.at; place = option_map place_view u.place }

abbrev pub number_view : Use → UseTree ℕ
number_view u = record { name = u.number; at = u.at; place = option_map place_view u.place }

abbrev pub uses_view : List (Vec Use Global) → List (List (UseTree (List ℕ)))
uses_view all = map (λ uses. map use_view uses.items) all

abbrev pub numbers_view : List (Vec Use Global) → List (List (UseTree ℕ))
numbers_view all = map (λ uses. map number_view uses.items) all

abbrev pub use_in : (at : ℕ) → Option PlaceTree → ValueTree → Option (UseTree (List ℕ))
use_in at place (variable name) = Some (record { name = name; at = at; place = place })
use_in at place v = None

abbrev pub use_of : NodeTree → Option (UseTree (List ℕ))
use_of (value_node v place) = use_in v.at place v.value
use_of n = None

-- the uses among some nodes, and those of each part of a document
abbrev pub uses_of : List NodeTree → List (UseTree (List ℕ))
uses_of nodes = filter_map use_of nodes

abbrev pub all_uses : List PartTree → List (List (UseTree (List ℕ)))
all_uses parts = map (λ p. uses_of p.nodes) parts

-- the uses in the definition at a place
abbrev pub uses_at : {N : Type 0} → List (List (UseTree N)) → ℕ → List (UseTree N)
uses_at all at = slice_index_or all at []

-- ---- numbers of names

-- each name has another number, and all are below the count
pub record AreNumbers (number_of : Places) (count : ℕ) : Type 0 where
  pub below : (name : List ℕ) (n : ℕ) → number_of name ≡ Some n → n < count
  pub one : (left right : List ℕ) (n : ℕ) → number_of left ≡ Some n → number_of right ≡ Some n → left ≡ right

-- names keep their numbers
abbrev pub Keeps : Places → Places → Type 0
Keeps old new = (name : List ℕ) (n : ℕ) → old name ≡ Some n → new name ≡ Some n

-- each use has the number of its name
abbrev pub IsNumbered : Places → Use → Type 0
IsNumbered number_of u = number_of u.name.now ≡ Some u.number

abbrev pub AreNumbered : Places → List (Vec Use Global) → Type 0
AreNumbered number_of all = All (λ uses. All (IsNumbered number_of) uses.items) all
