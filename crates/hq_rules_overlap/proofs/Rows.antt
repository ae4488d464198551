-- The rows of sets below the fields of each key.
use Rattle.std.proofs.Common.{◌≡◌, ◌∙◌, ℕ, zero, suc, ◌<◌, ◌≤◌, List, [], ◌∷◌, map, length, get_or, ◌⊎◌, inl, inr, sym, refl, ap, subst, arith}
use Rattle.std.specs.Prelude.{Vec}
use Rattle.std.specs.declared.alloc.Global.{Global}
use Rattle.std.specs.Borrow.{Bor}
use Rattle.std.specs.HashMap.{HashMap}
use Rattle.std.specs.List.{All, Contains}
use Rattle.std.proofs.lemmas.Bool.{cases_lt}
use Rattle.std.proofs.lemmas.List.{length-map, get_or_default}
use Rattle.std.proofs.lemmas.List.Elements.{All-contains, Contains-get_or}
use Rattle.std.proofs.lemmas.Option.{slice_get_within}
use Rattle.hq_gql_nodes.specs.Reach.{graph_view}
use Rattle.hq_overlap_sets.specs.Rows.{row_at}
use Rattle.hq_overlap_sets.specs.Sets.{FieldTree, SetTree, place_in}
use Rattle.hq_overlap_sets.specs.Together as walk
use Rattle.hq_overlap_sets.specs.Together.{Together}
use Rattle.hq_overlap_sets.proofs.Least.{same_some}
use Rattle.hq_overlap_sets.proofs.Tests.{no_member}
use Rattle.hq_rules_overlap.specs.Groups.{AreTogether, AreMet, HaveBelow, IsKeyAt, IsBelow, AreBelow, HasRow}

-- beyond a list there is what stands for nothing
get_beyond : {X : Type 0} (xs : List X) (i : ℕ) (d : X) → length xs ≤ i → get_or xs i d ≡ d
get_beyond [] i d h = refl
get_beyond (x ∷ xs) zero d h = absurd (omega arith)
get_beyond (x ∷ xs) (suc i) d h = get_beyond xs i d (omega arith)

-- a row that has a number is one of the list
row_stands : (rows : List (List ℕ)) (at s : ℕ) → Contains (get_or rows at []) s → at < length rows ⊎ length rows ≤ at → Contains rows (get_or rows at [])
row_stands rows at s h (inl less) = Contains-get_or rows at [] less
row_stands rows at s h (inr more) = absurd (no_member s (subst (λ (xs : List ℕ). Contains xs s) (get_beyond rows at [] more) h))

pub is_row : (rows : List (Vec ℕ Global)) (at s : ℕ) → Contains (row_at rows at) s → Contains (graph_view rows) (row_at rows at)
is_row rows at s h = row_stands (graph_view rows) at s h (cases_lt at (length (graph_view rows)))

-- the rows have the sets below each two fields of one key
pub have_below : {S : Type 0} (keys : HashMap (Bor (List ℕ)) ℕ S) (rows : List (Vec ℕ Global)) (fields : List FieldTree) → All (HasRow keys rows) fields → HaveBelow (graph_view rows) fields
have_below keys rows fields all a b here there e =
    let one : HasRow keys rows a = All-contains (HasRow keys rows) fields a all here in
    let two : HasRow keys rows b = All-contains (HasRow keys rows) fields b all there in
    record {
      list = row_at rows (place_in keys a.key);
      of_lists = is_row rows (place_in keys a.key) a.below one;
      first = one;
      second = subst (λ (k : List ℕ). Contains (row_at rows (place_in keys k)) b.below) (sym e) two;
    }

-- each two sets of a row are put together
below_both : (sets : List SetTree) (fields : List FieldTree) (at s t : ℕ) → AreMet sets fields → IsBelow fields at s → IsBelow fields at t → Together sets s t
below_both sets fields at s t met x y =
    let one : x.of_key.first ≡ y.of_key.first = same_some x.of_key.first y.of_key.first (sym x.of_key.stands ∙ y.of_key.stands) in
    let key : x.field.key ≡ y.field.key = sym x.of_key.key ∙ (ap (λ (f : FieldTree). f.key) one ∙ y.of_key.key) in
    let m = met x.field y.field x.stands y.stands in
    subst (λ (u : ℕ). Together sets u t) x.is (subst (λ (u : ℕ). Together sets x.field.below u) y.is (walk.below m.together m.first m.second key))

pub rows_together : (sets : List SetTree) (fields : List FieldTree) (rows : List (Vec ℕ Global)) → AreMet sets fields → AreBelow fields rows → All (AreTogether sets) (graph_view rows)
rows_together sets fields rows met below i d h =
    subst (AreTogether sets) (sym (get_or_default (graph_view rows) i d [] h)) (λ s t a b. below_both sets fields i s t met (below i s a) (below i t b))

-- no row has a number yet
pub none_below : (fields : List FieldTree) (rows : List (Vec ℕ Global)) → ((c s : ℕ) → Contains (row_at rows c) s → ⊥) → AreBelow fields rows
none_below fields rows none at s h = absurd (none at s h)

-- one more number in a row
pub below_more : (fields : List FieldTree) (old new : List (Vec ℕ Global)) (at : ℕ) (a : FieldTree) (s : ℕ) → Contains fields a → IsKeyAt fields at a → a.below ≡ s
    → ((c t : ℕ) → Contains (row_at new c) t → Contains (row_at old c) t ⊎ ((at ≡ c) × (s ≡ t))) → AreBelow fields old → AreBelow fields new
below_more fields old new at a s stands key is only before c t h =
    (elim (only c t h) [
      | inl old ↦ before c t old
      | inr same ↦ record { field = a; stands = stands; of_key = subst (λ (n : ℕ). IsKeyAt fields n a) same.0 key; is = is ∙ same.1 }
    ])

-- the place of a key is one of the list
pub key_inside : {X : Type 0} (f : X → FieldTree) (xs : List X) (at : ℕ) (a : FieldTree) → IsKeyAt (map f xs) at a → at < length xs
key_inside f xs at a k = subst (λ (n : ℕ). at < n) (length-map xs f) (slice_get_within (map f xs) at k.first k.stands)

-- a list that a row is stands among the rows
pub listed : (rows : List (Vec ℕ Global)) (at : ℕ) (list : List ℕ) → at < length rows → row_at rows at ≡ list → Contains (graph_view rows) list
listed rows at list h e =
    let inside : at < length (graph_view rows) = subst (λ (n : ℕ). at < n) (sym (length-map rows (λ row. row.items))) h in
    subst (Contains (graph_view rows)) e (Contains-get_or (graph_view rows) at [] inside)
