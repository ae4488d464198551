-- Fields and sets in memory, and what they are seen as.
use Rattle.std.proofs.Common.{◌≡◌, ◌∙◌, ap, sym, refl, subst, ℕ, ◌<◌, List, [], ◌∷◌, length, get_or, map, drop, ◌+◌, ◌++◌, inl, inr, Option, Some, None, arith}
use Rattle.std.specs.Prelude.{slice_get, option_map}
use Rattle.std.proofs.lemmas.List.{map-append}
use Rattle.std.specs.List.{Contains, flat_map}
use Rattle.std.proofs.lemmas.Option.{slice_get_within, get_or_from_slice_get, slice_get_read, slice_get-map}
use Rattle.hq_gql_nodes.specs.Least.{earlier}
use Rattle.hq_overlap_sets.specs.declared.sets.Arena.{Arena}
use Rattle.hq_overlap_sets.specs.declared.sets.Entry.{Entry}
use Rattle.hq_overlap_sets.specs.declared.sets.Set.{Set}
use Rattle.hq_overlap_sets.specs.Sets.{FieldTree, SetTree, set_in, arena_view}
use Rattle.hq_overlap_sets.specs.Together.{AreConflicts}
use Rattle.hq_overlap_sets.proofs.Growing.{grown_by, drop_first}
use Rattle.hq_overlap_sets.proofs.Least.{earlier_cases}

-- what stands at a place in a list of images
pub get_map : {X Y : Type 0} (f : X → Y) (xs : List X) (i : ℕ) (x : X) → slice_get xs i ≡ Some x → slice_get (map f xs) i ≡ Some (f x)
get_map f xs i x h = slice_get-map f xs i ∙ ap (option_map f) h

pub get_map_none : {X Y : Type 0} (f : X → Y) (xs : List X) (i : ℕ) → slice_get xs i ≡ None → slice_get (map f xs) i ≡ None
get_map_none f xs i h = slice_get-map f xs i ∙ ap (option_map f) h

pub contained_at : {X Y : Type 0} (f : X → Y) (xs : List X) (ys : List Y) (i : ℕ) (x : X) → map f xs ≡ ys → slice_get xs i ≡ Some x → Contains ys (f x)
contained_at f xs ys i x e h =
    let stands = get_map f xs i x h in
    subst (λ zs. Contains zs (f x)) e (i, slice_get_within (map f xs) i (f x) stands, get_or_from_slice_get (map f xs) i (f x) (f x) stands)

-- an empty list
pub empty_list : {X : Type 0} (xs : List X) → length xs ≡ 0 → xs ≡ []
empty_list [] h = refl
empty_list (x ∷ xs) h = absurd (omega arith)

-- the set of a number
pub set_here : (a : Arena) (n : ℕ) (x : Set) → slice_get a.sets.items n ≡ Some x → slice_get (arena_view a) n ≡ Some (set_in a x)
set_here a n x h = get_map (set_in a) a.sets.items n x h

pub set_read : (a : Arena) (n : ℕ) (x : Set) → n < length a.sets.items → x ≡ get_or a.sets.items n x → slice_get (arena_view a) n ≡ Some (set_in a x)
set_read a n x h e = set_here a n x (slice_get_read a.sets.items (length a.sets.items) n x refl h e)

pub no_set : (a : Arena) (n : ℕ) → slice_get a.sets.items n ≡ None → slice_get (arena_view a) n ≡ None
no_set a n h = get_map_none (set_in a) a.sets.items n h

pub both_conflicts : (sets : List SetTree) (o q : Option ℕ) → AreConflicts sets o → AreConflicts sets q → AreConflicts sets (earlier o q)
both_conflicts sets o q f g p h =
    (elim (earlier_cases o q p h) [
      | inl e ↦ f p e
      | inr e ↦ g p e
    ])

-- the fields of one more set
pub entries_more : (f : Entry → FieldTree) (view : Set → SetTree) → ((x : Set) → (view x).fields ≡ map f x.entries.items)
    → (sets : List Set) (i : ℕ) (x : Set) (old new : List Entry) (all : List FieldTree)
    → i < length sets → x ≡ get_or sets i x → new ≡ old ++ x.entries.items
    → map f old ++ flat_map (λ (t : SetTree). t.fields) (map view (drop i sets)) ≡ all
    → map f new ++ flat_map (λ (t : SetTree). t.fields) (map view (drop (i + 1) sets)) ≡ all
entries_more f view seen sets i x old new all below is grown before =
    grown_by (map f old) (map f new) (map f x.entries.items) (flat_map (λ (t : SetTree). t.fields) (map view (drop (i + 1) sets))) all
    (ap (map f) grown ∙ map-append f old x.entries.items)
    (ap (λ fs. map f old ++ (fs ++ flat_map (λ (t : SetTree). t.fields) (map view (drop (i + 1) sets)))) (sym (seen x))
    ∙ (ap (λ xs. map f old ++ flat_map (λ (t : SetTree). t.fields) (map view xs)) (sym (drop_first sets i x below is)) ∙ before))
