-- Lists of places that have the same members give the same answers.
use Rattle.std.proofs.Common.{◌≡◌, ◌∙◌, ℕ, List, [], ◌∷◌, Bool, true, false, refl, sym, ap, inl, inr, nat_eq, ◌||◌, arith}
use Rattle.std.proofs.lemmas.Grind.{common_steps}
use Rattle.std.specs.List.{list_any}
use Rattle.hq_gql_nodes.specs.Reach.{has}
use Rattle.hq_gql_nodes.proofs.Grown.{or_split}
use Rattle.hq_gql_nodes.proofs.Walks.{has_behind}

-- the two lists have the same members
abbrev pub SameMembers : List ℕ → List ℕ → Type 0
SameMembers xs ys = (q : ℕ) → has xs q ≡ has ys q

-- a member that passes
pub any_member : (p : ℕ → Bool) (xs : List ℕ) → list_any p xs ≡ true → (q : ℕ) × (has xs q ≡ true) × (p q ≡ true)
any_member p [] h = absurd (cc)
any_member p (x ∷ xs) h = (elim (or_split (p x) (list_any p xs) h) [
  | inl e ↦ (x, grind (arith, common_steps), e)
  | inr m ↦ let r = any_member p xs m in (r.0, has_behind (x ∷ []) xs r.0 r.1, r.2)
])

or_right : (a b : Bool) → b ≡ true → (a || b) ≡ true
or_right true b h = refl
or_right false b h = h

or_left : (a b : Bool) → a ≡ true → (a || b) ≡ true
or_left true b h = refl
or_left false b h = absurd (cc)

member_any : (p : ℕ → Bool) (xs : List ℕ) (q : ℕ) → has xs q ≡ true → p q ≡ true → list_any p xs ≡ true
member_any p [] q h e = absurd (cc)
member_any p (x ∷ xs) q h e = (elim (or_split (nat_eq q x) (has xs q) h) [
  | inl s ↦ let same : q ≡ x = grind (arith, common_steps) in or_left (p x) (list_any p xs) (ap p (sym same) ∙ e)
  | inr m ↦ or_right (p x) (list_any p xs) (member_any p xs q m e)
])

-- two tests that hold together are equal
pub same_test : (a b : Bool) → (a ≡ true → b ≡ true) → (b ≡ true → a ≡ true) → a ≡ b
same_test true true f h = refl
same_test true false f h = sym (f refl)
same_test false true f h = h refl
same_test false false f h = refl

pub any_same : (p : ℕ → Bool) (xs ys : List ℕ) → SameMembers xs ys → list_any p xs ≡ list_any p ys
any_same p xs ys same = same_test (list_any p xs) (list_any p ys)
    (λ h. let r = any_member p xs h in member_any p ys r.0 (sym (same r.0) ∙ r.1) r.2)
    (λ h. let r = any_member p ys h in member_any p xs r.0 (same r.0 ∙ r.1) r.2)
