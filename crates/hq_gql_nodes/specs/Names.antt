-- Names that are noted, and names that stand twice in a list.
use Rattle.std.specs.Prelude.{ℕ, List, [], ◌∷◌, Bool, Option, None, is_some, bytes_eq}
use Rattle.std.specs.Borrow.{Bor}
use Rattle.std.specs.HashMap.{HashMap, get_by}
use Rattle.std.specs.List.{list_any}
use Rattle.hq_gql_nodes.specs.Least.{earlier, at_if}
use Rattle.hq_gql_nodes.specs.declared.names.NameAt.{NameAt}

-- what a map has at a name
abbrev pub get_name : {V S : Type 0} → HashMap (Bor (List ℕ)) V S → List ℕ → Option V
get_name m q = get_by (λ k. bytes_eq q k.now) m

abbrev pub has_name : {V S : Type 0} → HashMap (Bor (List ℕ)) V S → List ℕ → Bool
has_name m q = is_some (get_name m q)

-- a name, and where it stands
pub record NameTree : Type 0 where
  pub name : List ℕ
  pub at : ℕ

abbrev pub name_view : NameAt → NameTree
name_view n = record { name = n.name.now; at = n.at }

-- the least place of a name that stands further in front too, or is one of those before
abbrev pub repeat_behind : (before : List (List ℕ)) → List NameTree → Option ℕ
repeat_behind before [] = None
repeat_behind before (n ∷ ns) = earlier (at_if (list_any (λ x. bytes_eq x n.name) before) n.at) (repeat_behind (n.name ∷ before) ns)

-- the least place of a name that an earlier one of the list has
abbrev pub least_repeat : List NameTree → Option ℕ
least_repeat names = repeat_behind [] names
