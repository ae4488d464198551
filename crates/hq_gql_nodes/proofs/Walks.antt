-- What a search that ends has found.
use Rattle.std.proofs.Common.{◌≡◌, ℕ, zero, suc, ◌<◌, ◌≤◌, ◌+◌, ◌-◌, List, [], ◌∷◌, ◌++◌, length, get_or, Bool, true, false, cond, refl, ap, sym, ◌∙◌, arith, ◌⊎◌, inl, inr, nat_eq, nat_lt, ◌||◌, subst}
use Rattle.std.proofs.lemmas.Grind.{common_steps}
use Rattle.std.proofs.lemmas.List.{get_or_append_left}
use Rattle.std.proofs.lemmas.List.Folds.{list_any_at}
use Rattle.std.proofs.lemmas.Map.Steps.{length-le_from_distinct_below}
use Rattle.std.proofs.lemmas.Bool.{cases_eq, cases_lt}
use Rattle.std.specs.List.{flat_map}
use Rattle.hq_gql_nodes.specs.Reach.{has, Graph, inside, targets, within, reached}
use Rattle.hq_gql_nodes.specs.Marks.{Among, Agrees, Adds}
use Rattle.hq_gql_nodes.proofs.Grown.{has_more, has_either, or_split}

-- where a place stands in a list
pub place_of : (xs : List ℕ) (q : ℕ) → has xs q ≡ true → (j : ℕ) × (j < length xs) × (get_or xs j 0 ≡ q)
place_of [] q h = absurd (cc)
place_of (x ∷ xs) q h =
    (elim (or_split (nat_eq q x) (has xs q) h) [
      | inl e ↦ (0, omega arith, grind (arith, common_steps))
      | inr e ↦ let r = place_of xs q e in (suc r.0, omega (arith, r.1), r.2)
    ])

pub stands : (xs : List ℕ) (j : ℕ) → j < length xs → has xs (get_or xs j 0) ≡ true
stands xs j below = list_any_at (nat_eq (get_or xs j 0)) xs j 0 below (grind (arith, common_steps))

-- what stands in the second of two lists
pub has_behind : (xs ys : List ℕ) (q : ℕ) → has ys q ≡ true → has (xs ++ ys) q ≡ true
has_behind [] ys q h = h
has_behind (x ∷ xs) ys q h = or_right (nat_eq q x) (has (xs ++ ys) q) (has_behind xs ys q h)
  where
    or_right : (a b : Bool) → b ≡ true → (a || b) ≡ true
    or_right true b h = refl
    or_right false b h = h

-- a place is among those of a list that a graph has
inside_by : (g : Graph) (x : ℕ) (xs : List ℕ) (q : ℕ) (b : Bool) → nat_lt x (length g) ≡ b → q < length g → (nat_eq q x ≡ true) ⊎ (has xs q ≡ true)
    → (has xs q ≡ true → has (inside g xs) q ≡ true) → has (inside g (x ∷ xs)) q ≡ true
inside_by g x xs q true e below (inl h) again = rw e (ap (λ c. c || has (inside g xs) q) h)
inside_by g x xs q true e below (inr h) again = rw e (has_behind (x ∷ []) (inside g xs) q (again h))
inside_by g x xs q false e below (inl h) again = absurd (grind (arith, common_steps))
inside_by g x xs q false e below (inr h) again = rw e (again h)

pub inside-has : (g : Graph) (places : List ℕ) (q : ℕ) → Among (length g) places q → has (inside g places) q ≡ true
inside-has g [] q a = absurd (let h = a.1 in cc)
inside-has g (x ∷ xs) q a = inside_by g x xs q (nat_lt x (length g)) refl a.0 (or_split (nat_eq q x) (has xs q) a.1) (λ h. inside-has g xs q (a.0, h))

among_by : (g : Graph) (x : ℕ) (xs : List ℕ) (q : ℕ) (b : Bool) → nat_lt x (length g) ≡ b → has (cond b (x ∷ inside g xs) (inside g xs)) q ≡ true
    → (has (inside g xs) q ≡ true → Among (length g) xs q) → Among (length g) (x ∷ xs) q
among_by g x xs q true e h again = (elim (or_split (nat_eq q x) (has (inside g xs) q) h) [
  | inl s ↦ (grind (arith, common_steps), ap (λ c. c || has xs q) s)
  | inr m ↦ let r = again m in (r.0, has_behind (x ∷ []) xs q r.1)
])
among_by g x xs q false e h again = let r = again h in (r.0, has_behind (x ∷ []) xs q r.1)

pub has-inside : (g : Graph) (places : List ℕ) (q : ℕ) → has (inside g places) q ≡ true → Among (length g) places q
has-inside g [] q h = absurd (cc)
has-inside g (x ∷ xs) q h = among_by g x xs q (nat_lt x (length g)) refl h (λ m. has-inside g xs q m)

-- what stands in a list that some item of a list gives
pub flat_map-has : (f : ℕ → List ℕ) (xs : List ℕ) (c q : ℕ) → has xs c ≡ true → has (f c) q ≡ true → has (flat_map f xs) q ≡ true
flat_map-has f [] c q h k = absurd (cc)
flat_map-has f (x ∷ xs) c q h k = (elim (or_split (nat_eq c x) (has xs c) h) [
  | inl e ↦ has_more (f x) (flat_map f xs) q (let same : c ≡ x = grind (arith, common_steps) in subst (λ (y : ℕ). has (f y) q ≡ true) same k)
  | inr m ↦ has_behind (f x) (flat_map f xs) q (flat_map-has f xs c q m k)
])

pub has-flat_map : (f : ℕ → List ℕ) (xs : List ℕ) (q : ℕ) → has (flat_map f xs) q ≡ true → (c : ℕ) × (has xs c ≡ true) × (has (f c) q ≡ true)
has-flat_map f [] q h = absurd (cc)
has-flat_map f (x ∷ xs) q h = (elim (has_either (f x) (flat_map f xs) q h) [
  | inl e ↦ (x, grind (arith, common_steps), e)
  | inr m ↦ let r = has-flat_map f xs q m in (r.0, has_behind (x ∷ []) xs r.0 r.1, r.2)
])

-- what is reached in so many steps is in more
pub within_more : (g : Graph) (starts : List ℕ) (k n q : ℕ) → has (within n g starts) q ≡ true → has (within (k + n) g starts) q ≡ true
within_more g starts zero n q h = let e : n ≡ zero + n = omega arith in subst (λ (m : ℕ). has (within m g starts) q ≡ true) e h
within_more g starts (suc k) n q h =
    let e : suc (k + n) ≡ suc k + n = omega arith in
    subst (λ (m : ℕ). has (within m g starts) q ≡ true) e
    (has_more (within (k + n) g starts) (flat_map (targets g) (within (k + n) g starts)) q (within_more g starts k n q h))

pub within_up_to : (g : Graph) (starts : List ℕ) (n m q : ℕ) → n ≤ m → has (within n g starts) q ≡ true → has (within m g starts) q ≡ true
within_up_to g starts n m q le h = let e : (m - n) + n ≡ m = omega arith in subst (λ (j : ℕ). has (within j g starts) q ≡ true) e (within_more g starts (m - n) n q h)

-- one step more
pub within_step : (g : Graph) (starts : List ℕ) (n p q : ℕ) → has (within n g starts) p ≡ true → Among (length g) (get_or g p []) q → has (within (suc n) g starts) q ≡ true
within_step g starts n p q h a =
    has_behind (within n g starts) (flat_map (targets g) (within n g starts)) q
    (flat_map-has (targets g) (within n g starts) p q h (inside-has g (get_or g p []) q a))

-- each place of a list is reached in as many steps as it has places before it, at most
abbrev pub InSteps : Graph → List ℕ → List ℕ → Type 0
InSteps g starts order = (i : ℕ) → i < length order → has (within i g starts) (get_or order i 0) ≡ true

-- a place behind others stands among them or among those behind
pub get_behind : (xs ys : List ℕ) (i : ℕ) → length xs ≤ i → i < length (xs ++ ys) → has ys (get_or (xs ++ ys) i 0) ≡ true
get_behind [] ys i h l = stands ys i l
get_behind (x ∷ xs) ys zero h l = absurd (omega arith)
get_behind (x ∷ xs) ys (suc i) h l = get_behind xs ys i (omega arith) (omega arith)

-- more places, all of which the place at `at` leads to
pub in_steps_more : (g : Graph) (starts old new : List ℕ) (at p : ℕ) → at < length old → get_or old at 0 ≡ p → InSteps g starts old → Adds (length g) (get_or g p []) old new → InSteps g starts new
in_steps_more g starts old new at p below e steps adds i l = by_place (cases_lt i (length old))
  where
    grown : i < length (old ++ adds.more)
    grown = subst (λ (xs : List ℕ). i < length xs) adds.grown l

    here : has (within at g starts) p ≡ true
    here = subst (λ (x : ℕ). has (within at g starts) x ≡ true) e (steps at below)

    by_place : (i < length old) ⊎ (length old ≤ i) → has (within i g starts) (get_or new i 0) ≡ true
    by_place (inl h) =
        subst (λ (xs : List ℕ). has (within i g starts) (get_or xs i 0) ≡ true) (sym adds.grown)
        (subst (λ (x : ℕ). has (within i g starts) x ≡ true) (sym (get_or_append_left old adds.more 0 i h)) (steps i h))
    by_place (inr h) =
        subst (λ (xs : List ℕ). has (within i g starts) (get_or xs i 0) ≡ true) (sym adds.grown)
        (within_up_to g starts (suc at) i (get_or (old ++ adds.more) i 0) (omega arith)
        (within_step g starts at p (get_or (old ++ adds.more) i 0) here (adds.from (get_or (old ++ adds.more) i 0) (get_behind old adds.more i h grown))))

-- the first places
pub in_steps_first : (g : Graph) (starts new : List ℕ) → Adds (length g) starts [] new → InSteps g starts new
in_steps_first g starts new adds i l =
    within_up_to g starts 0 i (get_or new i 0) (omega arith)
    (inside-has g starts (get_or new i 0) (adds.from (get_or new i 0) (subst (λ (xs : List ℕ). has xs (get_or new i 0) ≡ true) adds.grown (stands new i l))))

-- a list that has the starts, and all to which its places lead, has all that is reached
pub all_within : (g : Graph) (starts order : List ℕ) → ((q : ℕ) → Among (length g) starts q → has order q ≡ true) →
    ((j : ℕ) → j < length order → (q : ℕ) → Among (length g) (get_or g (get_or order j 0) []) q → has order q ≡ true) →
    (n q : ℕ) → has (within n g starts) q ≡ true → has order q ≡ true
all_within g starts order first closed zero q h = first q (has-inside g starts q h)
all_within g starts order first closed (suc n) q h = (elim (has_either (within n g starts) (flat_map (targets g) (within n g starts)) q h) [
  | inl e ↦ all_within g starts order first closed n q e
  | inr m ↦
      let r = has-flat_map (targets g) (within n g starts) q m in
      let at = place_of order r.0 (all_within g starts order first closed n r.0 r.1) in
      closed at.0 at.1 q (subst (λ (c : ℕ). Among (length g) (get_or g c []) q) (sym at.2) (has-inside g (get_or g r.0 []) q r.2))
])

-- a mark stands within its list
below_marks : (marks : List Bool) (q : ℕ) → get_or marks q false ≡ true → q < length marks
below_marks [] q h = absurd (cc)
below_marks (m ∷ ms) zero h = omega arith
below_marks (m ∷ ms) (suc q) h = let r = below_marks ms q h in omega (arith, r)

-- no more places stand in the list than there are marks
pub no_more : (marks : List Bool) (order : List ℕ) → Agrees marks order → length order ≤ length marks
no_more marks order a = length-le_from_distinct_below order (length marks) a.once (λ q h. below_marks marks q (a.same q ∙ h))

-- two tests that hold together are equal
same_test : (a b : Bool) → (a ≡ true → b ≡ true) → (b ≡ true → a ≡ true) → a ≡ b
same_test true true f h = refl
same_test true false f h = sym (f refl)
same_test false true f h = h refl
same_test false false f h = refl

-- at the end of the search what is reached is found, and nothing else
pub all_found : (g : Graph) (starts order : List ℕ) (marks : List Bool) → length marks ≡ length g → Agrees marks order →
    ((q : ℕ) → Among (length g) starts q → has order q ≡ true) →
    ((j : ℕ) → j < length order → (q : ℕ) → Among (length g) (get_or g (get_or order j 0) []) q → has order q ≡ true) →
    InSteps g starts order → (q : ℕ) → has order q ≡ has (reached g starts) q
all_found g starts order marks as_long a first closed steps q =
    same_test (has order q) (has (reached g starts) q)
    (λ h.
    let at = place_of order q h in
    let few = no_more marks order a in
    within_up_to g starts at.0 (length g) q (omega (arith, at.1, few)) (subst (λ (x : ℕ). has (within at.0 g starts) x ≡ true) at.2 (steps at.0 at.1)))
    (λ h. all_within g starts order first closed (length g) q h)

-- what stood in the list still does
pub kept : (n : ℕ) (places old new : List ℕ) → Adds n places old new → (q : ℕ) → has old q ≡ true → has new q ≡ true
kept n places old new adds q h = subst (λ (xs : List ℕ). has xs q ≡ true) (sym adds.grown) (has_more old adds.more q h)

-- one more step: the place at which the search stands leads to found places
pub closed_more : (g : Graph) (old new : List ℕ) (at p : ℕ) → at < length old → get_or old at 0 ≡ p → Adds (length g) (get_or g p []) old new →
    ((q : ℕ) → Among (length g) (get_or g p []) q → has new q ≡ true) →
    ((j : ℕ) → j < at → j < length old → (q : ℕ) → Among (length g) (get_or g (get_or old j 0) []) q → has old q ≡ true) →
    (j : ℕ) → j < at + 1 → j < length new → (q : ℕ) → Among (length g) (get_or g (get_or new j 0) []) q → has new q ≡ true
closed_more g old new at p below e adds marked closed j h l q m =
    let same = λ (i : j < length old). subst (λ (xs : List ℕ). get_or xs j 0 ≡ get_or old j 0) (sym adds.grown) (get_or_append_left old adds.more 0 j i) in
    (elim (cases_eq j at) [
      | inl k ↦
          let i : j < length old = omega arith in
          marked q (subst (λ (c : ℕ). Among (length g) (get_or g c []) q) (same i ∙ (ap (λ (x : ℕ). get_or old x 0) k ∙ e)) m)
      | inr k ↦
          let b : j < at = omega arith in
          let i : j < length old = omega arith in
          kept (length g) (get_or g p []) old new adds q (closed j b i q (subst (λ (c : ℕ). Among (length g) (get_or g c []) q) (same i) m))
    ])
