-- Numbers that do not fall along any step of a graph: a place that leads to greater ones alone does not lead back to itself.
use Rattle.std.proofs.Common.{◌≡◌, inl, inr, ℕ, zero, suc, ◌<◌, List, [], length, get_or, Bool, true, false, refl, arith}
use Rattle.std.specs.List.{flat_map}
use Rattle.hq_gql_nodes.specs.Reach.{Graph, has, targets, within}
use Rattle.hq_gql_nodes.specs.Marks.{Among}
use Rattle.hq_gql_nodes.proofs.Grown.{has_either}
use Rattle.hq_gql_nodes.proofs.Walks.{has-inside, has-flat_map}
use Rattle.hq_rules_reach.specs.Spreads.{leads_back}
use Rattle.hq_rules_reach.specs.Rises.{Rises}

-- a place leads to greater numbers alone
abbrev pub Leaves : Graph → List ℕ → ℕ → Type 0
Leaves g numbers p = (q : ℕ) → Among (length g) (get_or g p []) q → get_or numbers p 0 < get_or numbers q 0

-- what is reached is a place of the graph
reached_below : (g : Graph) (starts : List ℕ) (n q : ℕ) → has (within n g starts) q ≡ true → q < length g
reached_below g starts zero q h = (has-inside g starts q h).0
reached_below g starts (suc n) q h = (elim (has_either (within n g starts) (flat_map (targets g) (within n g starts)) q h) [
  | inl e ↦ reached_below g starts n q e
  | inr m ↦ let r = has-flat_map (targets g) (within n g starts) q m in (has-inside g (get_or g r.0 []) q r.2).0
])

-- all that such a place reaches has a greater number
greater_within : (g : Graph) (numbers : List ℕ) → Rises g numbers → (p : ℕ) → Leaves g numbers p → (n q : ℕ) → has (within n g (get_or g p [])) q ≡ true → get_or numbers p 0 < get_or numbers q 0
greater_within g numbers rises p leaves zero q h = leaves q (has-inside g (get_or g p []) q h)
greater_within g numbers rises p leaves (suc n) q h = (elim (has_either (within n g (get_or g p [])) (flat_map (targets g) (within n g (get_or g p []))) q h) [
  | inl e ↦ greater_within g numbers rises p leaves n q e
  | inr m ↦
      let r = has-flat_map (targets g) (within n g (get_or g p [])) q m in
      let first = greater_within g numbers rises p leaves n r.0 r.1 in
      let last = rises r.0 (reached_below g (get_or g p []) n r.0 r.1) q (has-inside g (get_or g r.0 []) q r.2) in
      omega (arith, first, last)
])

pub not_back : (g : Graph) (numbers : List ℕ) → Rises g numbers → (p : ℕ) → Leaves g numbers p → leads_back g p ≡ false
not_back g numbers rises p leaves = by_test (leads_back g p) refl
  where
    by_test : (b : Bool) → leads_back g p ≡ b → b ≡ false
    by_test false e = refl
    by_test true e =
        let greater = greater_within g numbers rises p leaves (length g) p e in
        absurd (omega (arith, greater))
