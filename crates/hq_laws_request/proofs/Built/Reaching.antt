-- What is reached leads nowhere else: a way without a detour has fewer steps than the graph has places.
use Rattle.std.proofs.Common.{◌≡◌, ◌∙◌, refl, sym, ap, subst, ℕ, zero, suc, ◌<◌, ◌≤◌, arith, List, [], ◌∷◌, length, get_or, flat_map, Bool, true, false, ◌||◌, nat_eq, eq-eqb, ◌⊎◌, inl, inr}
use Rattle.std.specs.List.{IsDistinct}
use Rattle.std.proofs.lemmas.Bool.{eqb-true}
use Rattle.std.proofs.lemmas.Map.Keys.{IsDistinct-cons}
use Rattle.std.proofs.lemmas.Map.Steps.{length-le_from_distinct_below}
use Rattle.hq_base.specs.Lists.{Each}
use Rattle.hq_gql_nodes.specs.Marks.{Among}
use Rattle.hq_gql_nodes.specs.Reach.{has, Graph, inside, targets, within, reached}
use Rattle.hq_gql_nodes.proofs.Grown.{has_more, has_either, or_split}
use Rattle.hq_gql_nodes.proofs.Walks.{has_behind, inside-has, has-inside, flat_map-has, has-flat_map, within_up_to}

-- each of some places is among others, or one is not
missing : (xs ys : List ℕ) → ((q : ℕ) → has xs q ≡ true → has ys q ≡ true) ⊎ ((q : ℕ) × (has xs q ≡ true) × (has ys q ≡ false))
missing [] ys = inl (λ q h. absurd cc)
missing (x ∷ xs) ys = by (has ys x) refl (missing xs ys)
  where
    by : (b : Bool) → has ys x ≡ b → ((q : ℕ) → has xs q ≡ true → has ys q ≡ true) ⊎ ((q : ℕ) × (has xs q ≡ true) × (has ys q ≡ false))
        → ((q : ℕ) → has (x ∷ xs) q ≡ true → has ys q ≡ true) ⊎ ((q : ℕ) × (has (x ∷ xs) q ≡ true) × (has ys q ≡ false))
    by true here (inl rest) = inl (λ q h. (elim (or_split (nat_eq q x) (has xs q) h) [
      | inl e ↦ let same : q ≡ x = eqb-true q x e in ap (has ys) same ∙ here
      | inr m ↦ rest q m
    ]))
    by true here (inr other) = inr (other.0, has_behind (x ∷ []) xs other.0 other.1, other.2)
    by false here rest = inr (x, ap (λ b. b || has xs x) (eq-eqb x x refl), here)

one_distinct : (x : ℕ) → IsDistinct nat_eq (x ∷ [])
unfolding IsDistinct
one_distinct x = (tt, tt)

-- a place that is not among others is none of them
none_of : (q : ℕ) (xs : List ℕ) → has xs q ≡ false → Each (λ y. nat_eq q y ≡ false) xs
none_of q [] h = tt
none_of q (x ∷ xs) h = by (nat_eq q x) refl h (λ g. none_of q xs g)
  where
    by : (b : Bool) → nat_eq q x ≡ b → (b || has xs q) ≡ false → (has xs q ≡ false → Each (λ y. nat_eq q y ≡ false) xs) → Each (λ y. nat_eq q y ≡ false) (x ∷ xs)
    by true is h rest = absurd cc
    by false is h rest = (is, rest h)

module _ (g : Graph) (starts : List ℕ) where
  within_below : (n q : ℕ) → has (within n g starts) q ≡ true → q < length g
  within_below zero q h = (has-inside g starts q h).0
  within_below (suc n) q h = (elim (has_either (within n g starts) (flat_map (targets g) (within n g starts)) q h) [
    | inl e ↦ within_below n q e
    | inr m ↦ let r = has-flat_map (targets g) (within n g starts) q m in (has-inside g (get_or g r.0 []) q r.2).0
  ])

  -- no step leads out of what is reached in so many steps
  abbrev Closed : ℕ → Type 0
  Closed n = (p q : ℕ) → has (within n g starts) p ≡ true → Among (length g) (get_or g p []) q → has (within n g starts) q ≡ true

  -- or as many places are reached, and one more
  record Many (n : ℕ) : Type 0 where
    order : List ℕ
    apart : IsDistinct nat_eq order
    count : length order ≡ suc n
    inside : (q : ℕ) → has order q ≡ true → has (within n g starts) q ≡ true

  closed_more : (n : ℕ) → Closed n → Closed (suc n)
  closed_more n closed p q h a = has_more (within n g starts) (flat_map (targets g) (within n g starts)) q (closed p q back a)
    where
      back : has (within n g starts) p ≡ true
      back = (elim (has_either (within n g starts) (flat_map (targets g) (within n g starts)) p h) [
        | inl e ↦ e
        | inr m ↦ let r = has-flat_map (targets g) (within n g starts) p m in closed r.0 p r.1 (has-inside g (get_or g r.0 []) p r.2)
      ])

  stage : (n : ℕ) → Closed n ⊎ Many n
  stage zero = by (inside g starts) refl
    where
      by : (xs : List ℕ) → inside g starts ≡ xs → Closed zero ⊎ Many zero
      by [] is = inl (λ p q h a. let no : has [] p ≡ true = subst (λ ys. has ys p ≡ true) is h in absurd cc)
      by (x ∷ xs) is = inr (record {
        order = x ∷ [];
        apart = one_distinct x;
        count = refl;
        inside = λ q h. subst (λ ys. has ys q ≡ true) (sym is) (has_more (x ∷ []) xs q h);
      })
  stage (suc n) = by (stage n)
    where
      grown : Many n → (q : ℕ) → has (flat_map (targets g) (within n g starts)) q ≡ true → has (within n g starts) q ≡ false → Many (suc n)
      grown many q here new = record {
        order = q ∷ many.order;
        apart = IsDistinct-cons nat_eq q many.order (none_of q many.order (absent (has many.order q) refl)) many.apart;
        count = ap suc many.count;
        inside = λ p h. (elim (or_split (nat_eq p q) (has many.order p) h) [
          | inl e ↦ has_behind (within n g starts) (flat_map (targets g) (within n g starts)) p (subst (λ x. has (flat_map (targets g) (within n g starts)) x ≡ true) (sym (eqb-true p q e)) here)
          | inr m ↦ has_more (within n g starts) (flat_map (targets g) (within n g starts)) p (many.inside p m)
        ]);
      }
        where
          absent : (b : Bool) → has many.order q ≡ b → has many.order q ≡ false
          absent false is = is
          absent true is = let no : true ≡ false = sym (many.inside q is) ∙ new in absurd cc

      ends : ((q : ℕ) → has (flat_map (targets g) (within n g starts)) q ≡ true → has (within n g starts) q ≡ true) → Closed n
      ends all p q h a = all q (flat_map-has (targets g) (within n g starts) p q h (inside-has g (get_or g p []) q a))

      next : Many n → ((q : ℕ) → has (flat_map (targets g) (within n g starts)) q ≡ true → has (within n g starts) q ≡ true)
          ⊎ ((q : ℕ) × (has (flat_map (targets g) (within n g starts)) q ≡ true) × (has (within n g starts) q ≡ false))
          → Closed (suc n) ⊎ Many (suc n)
      next many (inl all) = inl (closed_more n (ends all))
      next many (inr new) = inr (grown many new.0 new.1 new.2)

      by : Closed n ⊎ Many n → Closed (suc n) ⊎ Many (suc n)
      by (inl closed) = inl (closed_more n closed)
      by (inr many) = next many (missing (flat_map (targets g) (within n g starts)) (within n g starts))

  -- no step leads out of what is reached
  pub reached_closed : Closed (length g)
  reached_closed = by (stage (length g))
    where
      by : Closed (length g) ⊎ Many (length g) → Closed (length g)
      by (inl closed) = closed
      by (inr many) = let few : length many.order ≤ length g = length-le_from_distinct_below many.order (length g) many.apart (λ q h. within_below (length g) q (many.inside q h)) in
          absurd (omega (arith, few, many.count))

  -- a start is reached
  pub start_reached : (q : ℕ) → Among (length g) starts q → has (reached g starts) q ≡ true
  start_reached q a = within_up_to g starts 0 (length g) q (omega arith) (inside-has g starts q a)
