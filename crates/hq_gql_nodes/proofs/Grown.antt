-- Lists of found places that grow at their ends.
use Rattle.std.proofs.Common.{◌≡◌, ℕ, ◌<◌, List, [], ◌∷◌, ◌++◌, length, get_or, Bool, true, false, refl, ap, sym, ◌∙◌, arith, ◌⊎◌, inl, inr, nat_eq, ◌||◌}
use Rattle.std.proofs.lemmas.Grind.{common_steps}
use Rattle.std.proofs.lemmas.List.Folds.{list_any-append}
use Rattle.std.proofs.lemmas.Bool.{cases_eq}
use Rattle.std.proofs.Math.ListN.{set}
use Rattle.hq_gql_nodes.specs.Reach.{has}

pub or_split : (a b : Bool) → (a || b) ≡ true → (a ≡ true) ⊎ (b ≡ true)
or_split true b h = inl refl
or_split false b h = inr h

-- what stands in a list stands in a longer one
pub has_more : (old more : List ℕ) (q : ℕ) → has old q ≡ true → has (old ++ more) q ≡ true
has_more old more q h = list_any-append (nat_eq q) old more ∙ ap (λ b. b || has more q) h

-- what stands in two lists joined stands in one of them
pub has_either : (old more : List ℕ) (q : ℕ) → has (old ++ more) q ≡ true → (has old q ≡ true) ⊎ (has more q ≡ true)
has_either old more q h = or_split _ _ (sym (list_any-append (nat_eq q) old more) ∙ h)

-- a place that is marked now
pub mark_same : (marks : List Bool) (order : List ℕ) (p q : ℕ) → p < length marks → get_or marks q false ≡ has order q → get_or (set marks p true) q false ≡ has (order ++ p ∷ []) q
mark_same marks order p q within h =
    (elim (cases_eq q p) [
      | inl e ↦ grind (arith, common_steps, list_any-append (nat_eq q) order (p ∷ []))
      | inr ne ↦ grind (arith, common_steps, list_any-append (nat_eq q) order (p ∷ []))
    ])
