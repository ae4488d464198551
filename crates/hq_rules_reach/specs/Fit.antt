-- What the rules of variables know of the uses of a document, and of places by the numbers of names.
use Rattle.std.specs.Prelude.{◌≡◌, ℕ, ◌==◌, ◌≤◌, List, Bool, true, false, Option, Some, None}
use Rattle.hq_gql_tree.specs.Documents.{VarDefTree}
use Rattle.hq_gql_nodes.specs.Fragments.{Places}
use Rattle.hq_gql_nodes.specs.Names.{get_name}
use Rattle.hq_rules_reach.specs.declared.uses.Uses.{Uses}
use Rattle.hq_rules_reach.specs.Summaries.{EachAscends}
use Rattle.hq_rules_reach.specs.Uses.{AreNumbers, AreNumbered}
use Rattle.hq_rules_reach.specs.Variables.{numbered_place, variable_named}

-- names have their numbers, the uses those of their names, and where it is said so they stand in the order of the text
pub record AreFit (uses : Uses) : Type 0 where
  pub numbers : AreNumbers (get_name uses.numbers.names) uses.numbers.count
  pub numbered : AreNumbered (get_name uses.numbers.names) uses.all.items
  pub ascending : uses.ascending ≡ true → EachAscends uses.all.items

-- whether this is a name's number
abbrev pub is_number : Option ℕ → ℕ → Bool
is_number None n = false
is_number (Some m) n = m == n

-- no number has a place
abbrev pub IsClear : List (Option ℕ) → Type 0
IsClear places = (n : ℕ) → numbered_place places n ≡ None

-- each number that is a name's has the place of the first variable of that name
abbrev pub ArePlaces : Places → List (Option ℕ) → List VarDefTree → Type 0
ArePlaces number_of places vars = (q : List ℕ) (n : ℕ) → number_of q ≡ Some n → numbered_place places n ≡ variable_named vars q

-- a place is none but at or before another
abbrev pub IsAtMost : Option ℕ → ℕ → Type 0
IsAtMost None at = ⊥
IsAtMost (Some place) at = place ≤ at
