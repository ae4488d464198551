-- The answer of the rule as a function: the least place of a later field among all pairs of sets that are put together. That it is the
-- one of Pairs is the law `the_place_is_first`.
use Rattle.std.specs.Prelude.{ℕ, zero, suc, List, [], ◌∷◌, ◌++◌, length, map, Bool, not, cond, ◌&&◌, ◌||◌, ◌==◌, nat_eq, bytes_eq, Option, None}
use Rattle.std.specs.List.{list_any, flat_map}
use Rattle.hq_schema.specs.Schema.{SchemaTree}
use Rattle.hq_gql_tree.specs.Documents.{DocumentTree}
use Rattle.hq_gql_nodes.specs.Least.{at_if, least_of}
use Rattle.hq_overlap_sets.specs.Literals.{same_arguments}
use Rattle.hq_overlap_sets.specs.Shapes.{same_shape}
use Rattle.hq_overlap_sets.specs.Sets.{LabelTree, FieldTree, SetTree, document_sets}
use Rattle.hq_overlap_sets.specs.Pairs.{fields_at, spreads_at, later}

-- the test of two fields of one key
abbrev pub same_label : LabelTree → LabelTree → Bool
same_label l m = bytes_eq l.name m.name && same_arguments l.args m.args

abbrev pub cannot_merge : FieldTree → FieldTree → Bool
cannot_merge a b = not (same_shape a.shape b.shape) || ((a.parent == b.parent) && not (same_label a.label b.label))

-- the least place of a later field of two, one of each list, that cannot merge
abbrev pub conflict_place : List FieldTree → List FieldTree → Option ℕ
conflict_place left right = least_of (λ a. least_of (λ b. at_if (bytes_eq a.key b.key && cannot_merge a b) (later a b)) right) left

-- two sets
abbrev pub Two : Type 0
Two = ℕ × ℕ

abbrev pub same_two : Two → Two → Bool
same_two x y = nat_eq x.0 y.0 && nat_eq x.1 y.1

-- two sets lead to themselves, to what either spreads with the other, and to the sets below two of their fields of one key
abbrev pub leads : List SetTree → Two → Two → Bool
leads sets x y =
    same_two x y
    || ((list_any (nat_eq y.0) (spreads_at sets x.0) && nat_eq x.1 y.1) || (nat_eq x.0 y.0 && list_any (nat_eq y.1) (spreads_at sets x.1)))
    || list_any (λ a. list_any (λ b. bytes_eq a.key b.key && (nat_eq a.below y.0 && nat_eq b.below y.1)) (fields_at sets x.1)) (fields_at sets x.0)

-- a way from one to another whose stops stand in a list
abbrev pub has_way : {X : Type 0} → (X → X → Bool) → (stops : List X) → X → X → Bool
has_way step [] x y = step x y
has_way step (z ∷ stops) x y = has_way step stops x y || (has_way step stops x z && has_way step stops z y)

-- the numbers below n, and all pairs of them
abbrev pub below : ℕ → List ℕ
below zero = []
below (suc n) = below n ++ (n ∷ [])

abbrev pub all_two : ℕ → List Two
all_two n = flat_map (λ s. map (λ t. (s, t)) (below n)) (below n)

-- two sets are put together where a way leads to them from one set with itself
abbrev pub are_together : List SetTree → Two → Bool
are_together sets x = list_any (λ s. has_way (leads sets) (all_two (length sets)) (s, s) x) (below (length sets))

unfoldable pub overlap_in : List SetTree → Option ℕ
overlap_in sets = least_of (λ x. cond (are_together sets x) (conflict_place (fields_at sets x.0) (fields_at sets x.1)) None) (all_two (length sets))

-- the least place at which a document violates the rule
unfoldable pub overlap_place : SchemaTree → DocumentTree → Option ℕ
overlap_place s d = overlap_in (document_sets s d)
