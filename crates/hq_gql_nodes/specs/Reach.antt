-- What a place reaches in a graph: a list of the places to which each place leads.
use Rattle.std.specs.Prelude.{ℕ, zero, suc, List, [], ◌++◌, length, map, filter, nat_lt, nat_eq, Bool, slice_index_or, Vec}
use Rattle.std.specs.declared.alloc.Global.{Global}
use Rattle.std.specs.List.{list_any, flat_map}

abbrev pub Graph : Type 0
Graph = List (List ℕ)

abbrev pub graph_view : List (Vec ℕ Global) → Graph
graph_view rows = map (λ row. row.items) rows

abbrev pub has : List ℕ → ℕ → Bool
has places q = list_any (nat_eq q) places

-- those of some places that a graph has
abbrev pub inside : Graph → List ℕ → List ℕ
inside g places = filter (λ q. nat_lt q (length g)) places

-- the places to which a place leads
abbrev pub targets : Graph → ℕ → List ℕ
targets g a = inside g (slice_index_or g a [])

-- the places that some places reach in at most so many steps, themselves among them
abbrev pub within : (steps : ℕ) → Graph → List ℕ → List ℕ
within zero g starts = inside g starts
within (suc n) g starts = within n g starts ++ flat_map (targets g) (within n g starts)

-- the places that some places reach: a way without a detour has fewer steps than the graph has places
abbrev pub reached : Graph → List ℕ → List ℕ
reached g starts = within (length g) g starts
