-- Lists of places that have the same members give the same answers.
use Rattle.std.proofs.Common.{◌≡◌, ◌∙◌, ◌≤◌, ℕ, List, [], ◌∷◌, Bool, true, Option, Some, None, refl, sym, ap, ◌⊎◌, inl, inr, nat_eq, ◌||◌, subst, min, arith}
use Rattle.std.proofs.lemmas.Grind.{common_steps}
use Rattle.std.specs.List.{list_any, flat_map}
use Rattle.std.proofs.lemmas.List.Folds.{list_any-append}
use Rattle.hq_gql_nodes.specs.Least.{earlier, least_of}
use Rattle.hq_gql_nodes.specs.Reach.{has}
use Rattle.hq_gql_nodes.proofs.Grown.{or_split}
use Rattle.hq_gql_nodes.proofs.Walks.{has_behind}
pub use Rattle.hq_gql_nodes.proofs.SameMembers.{SameMembers, same_test, any_same}

-- a place is none but at or behind another
abbrev AtMost : Option ℕ → ℕ → Type 0
AtMost None p = ⊥
AtMost (Some a) p = a ≤ p

at_most_left : (a b : Option ℕ) (p : ℕ) → AtMost a p → AtMost (earlier a b) p
at_most_left None b p h = absurd h
at_most_left (Some a) None p h = h
at_most_left (Some a) (Some b) p h = omega arith

at_most_right : (a b : Option ℕ) (p : ℕ) → AtMost b p → AtMost (earlier a b) p
at_most_right None b p h = h
at_most_right (Some a) None p h = absurd h
at_most_right (Some a) (Some b) p h = omega arith

is_at_most : (o : Option ℕ) (p : ℕ) → o ≡ Some p → AtMost o p
is_at_most o p e = let at_itself : AtMost (Some p) p = omega arith in subst (λ (x : Option ℕ). AtMost x p) (sym e) at_itself

-- the least is at or before the place that a member gives
least_below_member : (f : ℕ → Option ℕ) (xs : List ℕ) (q p : ℕ) → has xs q ≡ true → f q ≡ Some p → AtMost (least_of f xs) p
least_below_member f [] q p h e = absurd (cc)
least_below_member f (x ∷ xs) q p h e = (elim (or_split (nat_eq q x) (has xs q) h) [
  | inl s ↦ let same : q ≡ x = grind (arith, common_steps) in at_most_left (f x) (least_of f xs) p (is_at_most (f x) p (ap f (sym same) ∙ e))
  | inr m ↦ at_most_right (f x) (least_of f xs) p (least_below_member f xs q p m e)
])

-- and some member gives it
earlier_is : (a b : Option ℕ) (p : ℕ) → earlier a b ≡ Some p → (a ≡ Some p) ⊎ (b ≡ Some p)
earlier_is None b p e = inr e
earlier_is (Some a) None p e = inl e
earlier_is (Some a) (Some b) p e = by_order (min_is a b)
  where
    min_is : (a b : ℕ) → (min a b ≡ a) ⊎ (min a b ≡ b)
    min_is a b = grind arith

    by_order : (min a b ≡ a) ⊎ (min a b ≡ b) → (◌≡◌ {A = Option ℕ} (Some a) (Some p)) ⊎ (◌≡◌ {A = Option ℕ} (Some b) (Some p))
    by_order (inl h) = inl (ap Some (sym h) ∙ e)
    by_order (inr h) = inr (ap Some (sym h) ∙ e)

least_of_member : (f : ℕ → Option ℕ) (xs : List ℕ) (p : ℕ) → least_of f xs ≡ Some p → (q : ℕ) × (has xs q ≡ true) × (f q ≡ Some p)
least_of_member f [] p e = absurd (cc)
least_of_member f (x ∷ xs) p e = (elim (earlier_is (f x) (least_of f xs) p e) [
  | inl h ↦ (x, grind (arith, common_steps), h)
  | inr h ↦ let r = least_of_member f xs p h in (r.0, has_behind (x ∷ []) xs r.0 r.1, r.2)
])

-- two places, each of which is at most the other
both_ways : (a b : Option ℕ) → ((p : ℕ) → b ≡ Some p → AtMost a p) → ((p : ℕ) → a ≡ Some p → AtMost b p) → a ≡ b
both_ways None None f g = refl
both_ways None (Some b) f g = absurd (f b refl)
both_ways (Some a) None f g = absurd (g a refl)
both_ways (Some a) (Some b) f g = let h : a ≤ b = f b refl in let k : b ≤ a = g a refl in ap Some (omega arith)

pub least_same : (f : ℕ → Option ℕ) (xs ys : List ℕ) → SameMembers xs ys → least_of f xs ≡ least_of f ys
least_same f xs ys same = both_ways (least_of f xs) (least_of f ys)
    (λ p e. let r = least_of_member f ys p e in least_below_member f xs r.0 p (same r.0 ∙ r.1) r.2)
    (λ p e. let r = least_of_member f xs p e in least_below_member f ys r.0 p (sym (same r.0) ∙ r.1) r.2)

-- an item of a list of lists that passes
pub list_any-flat_map : {A : Type 0} (p : A → Bool) (f : ℕ → List A) (xs : List ℕ) → list_any p (flat_map f xs) ≡ list_any (λ x. list_any p (f x)) xs
list_any-flat_map p f [] = refl
list_any-flat_map p f (x ∷ xs) = list_any-append p (f x) (flat_map f xs) ∙ ap (λ b. list_any p (f x) || b) (list_any-flat_map p f xs)

pub any_same_flat : {A : Type 0} (p : A → Bool) (f : ℕ → List A) (xs ys : List ℕ) → SameMembers xs ys → list_any p (flat_map f xs) ≡ list_any p (flat_map f ys)
any_same_flat p f xs ys same = list_any-flat_map p f xs ∙ any_same (λ x. list_any p (f x)) xs ys same ∙ sym (list_any-flat_map p f ys)
