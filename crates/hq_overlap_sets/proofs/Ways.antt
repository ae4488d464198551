-- Ways through stops.
use Rattle.std.proofs.Common.{◌≡◌, List, [], ◌∷◌, Bool, true, ◌&&◌, ◌⊎◌, inl, inr, sym, subst}
use Rattle.std.specs.List.{Contains}
use Rattle.std.proofs.lemmas.Bool.{and_parts, and_from, or_cases, or_left, or_right}
use Rattle.hq_overlap_sets.specs.Places.{has_way}
use Rattle.hq_overlap_sets.proofs.Tests.{no_member, contains_cases}

-- what each step keeps, a way keeps
pub way_keeps : {X : Type 0} (step : X → X → Bool) (P : X → Type 0) → ((x y : X) → step x y ≡ true → P x → P y)
    → (stops : List X) (x y : X) → has_way step stops x y ≡ true → P x → P y
way_keeps step P keeps [] x y h p = keeps x y h p
way_keeps step P keeps (z ∷ stops) x y h p =
    (elim (or_cases (has_way step stops x y) (has_way step stops x z && has_way step stops z y) h) [
      | inl direct ↦ way_keeps step P keeps stops x y direct p
      | inr two ↦
          let parts = and_parts (has_way step stops x z) (has_way step stops z y) two in
          way_keeps step P keeps stops z y parts.1 (way_keeps step P keeps stops x z parts.0 p)
    ])

-- a step is a way
pub way_of_step : {X : Type 0} (step : X → X → Bool) (stops : List X) (x y : X) → step x y ≡ true → has_way step stops x y ≡ true
way_of_step step [] x y h = h
way_of_step step (z ∷ stops) x y h =
    or_left (has_way step stops x y) (has_way step stops x z && has_way step stops z y) (way_of_step step stops x y h)

module _ {X : Type 0} (step : X → X → Bool) (z : X) (stops : List X) where
  -- a way that ends or begins at the first stop needs it nowhere else
  into_first : (x : X) → has_way step (z ∷ stops) x z ≡ true → has_way step stops x z ≡ true
  into_first x h =
      (elim (or_cases (has_way step stops x z) (has_way step stops x z && has_way step stops z z) h) [
        | inl direct ↦ direct
        | inr two ↦ (and_parts (has_way step stops x z) (has_way step stops z z) two).0
      ])

  from_first : (y : X) → has_way step (z ∷ stops) z y ≡ true → has_way step stops z y ≡ true
  from_first y h =
      (elim (or_cases (has_way step stops z y) (has_way step stops z z && has_way step stops z y) h) [
        | inl direct ↦ direct
        | inr two ↦ (and_parts (has_way step stops z z) (has_way step stops z y) two).1
      ])

  through_first : (x y : X) → has_way step stops x z ≡ true → has_way step stops z y ≡ true → has_way step (z ∷ stops) x y ≡ true
  through_first x y h k =
      or_right (has_way step stops x y) (has_way step stops x z && has_way step stops z y) (and_from (has_way step stops x z) (has_way step stops z y) h k)

  joined : (m x y : X) → ((u v : X) → has_way step stops u m ≡ true → has_way step stops m v ≡ true → has_way step stops u v ≡ true)
      → ((has_way step stops x m ≡ true) ⊎ ((has_way step stops x z && has_way step stops z m) ≡ true))
      → ((has_way step stops m y ≡ true) ⊎ ((has_way step stops m z && has_way step stops z y) ≡ true))
      → has_way step (z ∷ stops) x y ≡ true
  joined m x y join (inl h) (inl k) = or_left (has_way step stops x y) (has_way step stops x z && has_way step stops z y) (join x y h k)
  joined m x y join (inl h) (inr k) =
      let out = and_parts (has_way step stops m z) (has_way step stops z y) k in
      through_first x y (join x z h out.0) out.1
  joined m x y join (inr h) (inl k) =
      let to = and_parts (has_way step stops x z) (has_way step stops z m) h in
      through_first x y to.0 (join z y to.1 k)
  joined m x y join (inr h) (inr k) =
      let to = and_parts (has_way step stops x z) (has_way step stops z m) h in
      let out = and_parts (has_way step stops m z) (has_way step stops z y) k in
      through_first x y to.0 out.1

-- two ways that meet at a stop are one
pub join_ways : {X : Type 0} (step : X → X → Bool) (stops : List X) (m x y : X) → Contains stops m
    → has_way step stops x m ≡ true → has_way step stops m y ≡ true → has_way step stops x y ≡ true
join_ways step [] m x y c h k = absurd (no_member m c)
join_ways step (z ∷ stops) m x y c h k =
    (elim (contains_cases z stops m c) [
      | inl same ↦
          through_first step z stops x y
          (into_first step z stops x (subst (λ w. has_way step (z ∷ stops) x w ≡ true) (sym same) h))
          (from_first step z stops y (subst (λ w. has_way step (z ∷ stops) w y ≡ true) (sym same) k))
      | inr behind ↦
          joined step z stops m x y (λ u v. join_ways step stops m u v behind)
          (or_cases (has_way step stops x m) (has_way step stops x z && has_way step stops z m) h)
          (or_cases (has_way step stops m y) (has_way step stops m z && has_way step stops z y) k)
    ])
