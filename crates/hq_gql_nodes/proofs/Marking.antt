-- Loops that mark places, one after the other.
use Rattle.std.proofs.Common.{◌≡◌, ◌∙◌, ◌<◌, ◌+◌, ℕ, List, [], ◌∷◌, ◌++◌, length, get_or, take, true, ap, sym, subst, append_assoc, arith, inl, inr}
use Rattle.std.proofs.lemmas.Grind.{common_steps}
use Rattle.std.proofs.lemmas.List.{take_more}
use Rattle.hq_gql_nodes.specs.Reach.{has}
use Rattle.hq_gql_nodes.specs.Marks.{Among, Adds}
use Rattle.hq_gql_nodes.proofs.Grown.{has_more, has_either}
use Rattle.hq_gql_nodes.proofs.Walks.{has_behind, kept}

one_more : (places : List ℕ) (i p : ℕ) → i < length places → p ≡ get_or places i 0 → take (i + 1) places ≡ take i places ++ p ∷ []
one_more places i p below is = take_more places i 0 below ∙ ap (λ x. take i places ++ x ∷ []) (sym is)

-- the list has grown by the places so far, and by one more
pub adds_more : (count : ℕ) (places : List ℕ) (i p : ℕ) (first old new : List ℕ) → i < length places → p ≡ get_or places i 0
    → Adds count (take i places) first old → Adds count (p ∷ []) old new → Adds count (take (i + 1) places) first new
adds_more count places i p first old new below is before now =
    subst (λ (taken : List ℕ). Adds count taken first new) (sym (one_more places i p below is)) (record {
      more = before.more ++ now.more;
      grown = now.grown ∙ ap (λ xs. xs ++ now.more) before.grown ∙ append_assoc first before.more now.more;
      from = λ q h. elim (has_either before.more now.more q h) [
        | inl m ↦ let a = before.from q m in (a.0, has_more (take i places) (p ∷ []) q a.1)
        | inr m ↦ let a = now.from q m in (a.0, has_behind (take i places) (p ∷ []) q a.1)
      ];
    })

-- the places so far stand in the list, and one more
pub marked_more : (count : ℕ) (places : List ℕ) (i p : ℕ) (old new : List ℕ) → i < length places → p ≡ get_or places i 0
    → Adds count (p ∷ []) old new → (p < count → has new p ≡ true) → ((q : ℕ) → Among count (take i places) q → has old q ≡ true) → (q : ℕ)
    → Among count (take (i + 1) places) q → has new q ≡ true
marked_more count places i p old new below is adds here before q a =
    let among : has (take i places ++ p ∷ []) q ≡ true = subst (λ (taken : List ℕ). has taken q ≡ true) (one_more places i p below is) a.1 in
    (elim (has_either (take i places) (p ∷ []) q among) [
      | inl m ↦ kept count (p ∷ []) old new adds q (before q (a.0, m))
      | inr m ↦
          let same : p ≡ q = grind (arith, common_steps) in
          let inside : p < count = subst (λ (x : ℕ). x < count) (sym same) a.0 in
          subst (λ (x : ℕ). has new x ≡ true) same (here inside)
    ])
