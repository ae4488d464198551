-- Which fields stand at the root and which below it, and along which relationships (Hasura, Queries: root fields, object
-- and array relationships).
use Rattle.std.specs.Prelude.{◌≡◌, ℕ, List, [], ◌∷◌, true, false}
use Rattle.hq_model.specs.Schema.{Schema, rel}
use Rattle.hq_model.specs.Selected.{SortKey}
use Rattle.hq_request_tree.specs.Everywhere.{FromRoot}
use Rattle.hq_request_tree.specs.Fields.{from_table, along, FieldTrees, FieldTree, column, typename, no_queries, object, list, by_key, aggregate, introspect, PartTree}

-- each relationship of a sort is an object one
abbrev pub ThroughObjects : (through : List ℕ) → Schema → ℕ → Type 0
ThroughObjects [] s t = Unit {0}
ThroughObjects (r ∷ rs) s t = ((rel s t r).many ≡ false) × ThroughObjects rs s (rel s t r).remote

abbrev pub SortsStand : List SortKey → Schema → ℕ → Type 0
SortsStand [] s t = Unit {0}
SortsStand (k ∷ ks) s t = ThroughObjects k.through s t × SortsStand ks s t

-- at the root lists and aggregates begin at a table, and there is neither a column nor an object relationship
abbrev pub StandsAtRoot : Schema → FieldTree → Type 0
StandsAtRoot s (column c) = ⊥
StandsAtRoot s (typename name) = Unit {0}
StandsAtRoot s no_queries = Unit {0}
StandsAtRoot s (object r fs) = ⊥
StandsAtRoot s (list (from_table u) a fs) = SortsStand a.sorts s u
StandsAtRoot s (list (along r) a fs) = ⊥
StandsAtRoot s (by_key u key fs) = Unit {0}
StandsAtRoot s (aggregate (from_table u) a ps) = SortsStand a.sorts s u
StandsAtRoot s (aggregate (along r) a ps) = ⊥
StandsAtRoot s (introspect f) = Unit {0}

-- below it they begin along an array relationship of the row's table, and an object stands along an object one
abbrev pub StandsBelow : Schema → (t : ℕ) → FieldTree → Type 0
StandsBelow s t (column c) = Unit {0}
StandsBelow s t (typename name) = Unit {0}
StandsBelow s t no_queries = ⊥
StandsBelow s t (object r fs) = (rel s t r).many ≡ false
StandsBelow s t (list (from_table u) a fs) = ⊥
StandsBelow s t (list (along r) a fs) = ((rel s t r).many ≡ true) × SortsStand a.sorts s (rel s t r).remote
StandsBelow s t (by_key u key fs) = ⊥
StandsBelow s t (aggregate (from_table u) a ps) = ⊥
StandsBelow s t (aggregate (along r) a ps) = ((rel s t r).many ≡ true) × SortsStand a.sorts s (rel s t r).remote
StandsBelow s t (introspect f) = ⊥

-- a part of an aggregate may always stand there
abbrev pub PartStands : (u : ℕ) → PartTree → Type 0
PartStands u p = Unit {0}

-- each field stands at its place
abbrev pub AllStand : FieldTrees → Schema → (root : ℕ) → Type 0
AllStand fs s root = FromRoot (StandsAtRoot s) (StandsBelow s) PartStands fs s root
