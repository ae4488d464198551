-- What classes at fault lead to is at fault.
use Rattle.std.proofs.Common.{◌≡◌, ◌∙◌, ℕ, zero, suc, List, [], ◌∷◌, length, true, nat_eq, inl, inr, sym, subst}
use Rattle.std.specs.Prelude.{Vec}
use Rattle.std.specs.declared.alloc.Global.{Global}
use Rattle.std.specs.List.{All, Contains, flat_map}
use Rattle.std.proofs.lemmas.List.Elements.{All-contains, Contains-append_cases}
use Rattle.hq_gql_nodes.specs.Reach.{graph_view, has, targets, within, reached}
use Rattle.hq_overlap_sets.specs.Rows.{row_at}
use Rattle.hq_overlap_sets.specs.Sets.{SetTree}
use Rattle.hq_overlap_sets.proofs.Stepping.{all_from}
use Rattle.hq_overlap_sets.proofs.Tests.{nat_same, no_member, any_found, any_passes, contains_first, contains_later, nat_itself}
use Rattle.hq_overlap_classes.specs.Classes.{AtFault}
use Rattle.hq_overlap_classes.specs.Noting.{AreEdges}
use Rattle.hq_overlap_classes.proofs.Sifting.{filter_from}

-- a number is among those of a list by the test, and the other way round
has_member : (xs : List ℕ) (q : ℕ) → has xs q ≡ true → Contains xs q
has_member xs q h = let r = any_found (nat_eq q) xs h in subst (Contains xs) (sym (nat_same q r.0 r.2)) r.1

member_has : (xs : List ℕ) (q : ℕ) → Contains xs q → has xs q ≡ true
member_has xs q h = any_passes (nat_eq q) xs q h (nat_itself q)

from_flat : {X Y : Type 0} (f : X → List Y) (xs : List X) (y : Y) → Contains (flat_map f xs) y → (x : X) × Contains xs x × Contains (f x) y
from_flat f [] y h = absurd (no_member y h)
from_flat f (x ∷ xs) y h =
    (elim (Contains-append_cases (f x) (flat_map f xs) y h) [
      | inl here ↦ (x, contains_first x xs, here)
      | inr later ↦ let r = from_flat f xs y later in (r.0, contains_later x xs r.0 r.1, r.2)
    ])

module _ (sets : List SetTree) (rows : List (Vec ℕ Global)) (starts : List ℕ) (edges : AreEdges sets rows) (are : All (AtFault sets) starts) where
  within_fault : (n q : ℕ) → Contains (within n (graph_view rows) starts) q → AtFault sets q
  within_fault zero q h = All-contains (AtFault sets) starts q are (filter_from _ starts q h)
  within_fault (suc n) q h =
      (elim (Contains-append_cases (within n (graph_view rows) starts) (flat_map (targets (graph_view rows)) (within n (graph_view rows) starts)) q h) [
        | inl before ↦ within_fault n q before
        | inr next ↦
            let x = from_flat (targets (graph_view rows)) (within n (graph_view rows) starts) q next in
            edges x.0 q (filter_from _ (row_at rows x.0) q x.2) (within_fault n x.0 x.1)
      ])

pub all_reached : (sets : List SetTree) (rows : List (Vec ℕ Global)) (starts list found : List ℕ) → list ≡ found
    → ((q : ℕ) → has found q ≡ has (reached (graph_view rows) starts) q) → AreEdges sets rows → All (AtFault sets) starts
    → All (AtFault sets) list
all_reached sets rows starts list found e same edges are =
    all_from (AtFault sets) list (λ q h. within_fault sets rows starts edges are (length (graph_view rows)) q
    (has_member (reached (graph_view rows) starts) q (sym (same q) ∙ member_has found q (subst (λ (xs : List ℕ). Contains xs q) e h))))
