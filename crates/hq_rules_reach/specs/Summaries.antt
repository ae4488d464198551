-- The uses of variables that the rules need: of those of one name at places that are alike, the first one.
use Rattle.std.specs.Prelude.{◌≡◌, ℕ, ◌≤◌, ◌<◌, ◌==◌, List, [], ◌∷◌, Bool, false, Option, option_map, slice_index_or, Vec, length}
use Rattle.std.specs.declared.alloc.Global.{Global}
use Rattle.std.specs.List.{All, list_any}
use Rattle.hq_schema.specs.Schema.{TypeRefTree, named, list_of, non_null}
use Rattle.hq_gql_nodes.specs.Known.{PlaceTree, place_view}
use Rattle.hq_gql_nodes.specs.Least.{at_if, least_of}
use Rattle.hq_rules_reach.specs.declared.uses.Use.{Use}
use Rattle.hq_rules_reach.specs.Uses.{UseTree, uses_at}

-- whether two references are one
abbrev pub is_same_type : TypeRefTree → TypeRefTree → Bool
is_same_type (named a) (named b) = a == b
is_same_type (named a) (list_of q) = false
is_same_type (named a) (non_null q) = false
is_same_type (list_of r) (named b) = false
is_same_type (list_of r) (list_of q) = is_same_type r q
is_same_type (list_of r) (non_null q) = false
is_same_type (non_null r) (named b) = false
is_same_type (non_null r) (list_of q) = false
is_same_type (non_null r) (non_null q) = is_same_type r q

-- a use stands in front of one of the same name, at a place like its
pub record IsLike (before found : Use) : Type 0 where
  pub name : before.name.now ≡ found.name.now
  pub place : option_map place_view before.place ≡ option_map place_view found.place
  pub at : before.at ≤ found.at

-- one of some uses does
pub record HasLike (uses : List Use) (found : Use) : Type 0 where
  pub index : ℕ
  pub below : index < length uses
  pub like : IsLike (slice_index_or uses index found) found

-- some uses stand for all: what a rule finds first among these by names and places it finds first among those, and they have the
-- same names
pub record IsSummary (some all : List (UseTree (List ℕ))) : Type 0 where
  pub least : (is_wrong : List ℕ → Option PlaceTree → Bool) → least_of (λ u. at_if (is_wrong u.name u.place) u.at) some ≡ least_of (λ u. at_if (is_wrong u.name u.place) u.at) all
  pub names : (is_meant : List ℕ → Bool) → list_any (λ u. is_meant u.name) some ≡ list_any (λ u. is_meant u.name) all

-- the same in each definition
abbrev pub AreSummaries : (some all : List (List (UseTree (List ℕ)))) → Type 0
AreSummaries some all = (at : ℕ) → IsSummary (uses_at some at) (uses_at all at)

-- uses in the order of the text, all behind a place
abbrev pub Ascends : (from : ℕ) → List Use → Type 0
Ascends from [] = Unit {0}
Ascends from (u ∷ us) = (from ≤ u.at) × Ascends u.at us

abbrev pub EachAscends : List (Vec Use Global) → Type 0
EachAscends all = All (λ uses. Ascends 0 uses.items) all
