-- Numbers link what is linked.
use Rattle.std.proofs.Common.{◌≡◌, ℕ, ◌+◌, ◌<◌, List, [], ◌∷◌, Bool, true, false, cond, ◌&&◌, ◌||◌, inl, inr, ⊎_elim, Option, Some, None, refl, sym, ap, ap₂, ◌∙◌, subst, arith}
use Rattle.std.proofs.lemmas.Bool.{eq-eqb, eqb-true, false≢true, ne_eqb, and_parts, or_left, or_right}
use Rattle.std.specs.List.{list_any, position_from}
use Rattle.hq_model.specs.Database.{Row}
use Rattle.hq_model.specs.Seen.{linked_by}
use Rattle.hq_model.specs.declared.meta.Pair.{Pair}
use Rattle.hq_copy_definition.specs.Links.{Among, from_number, to_number, first_from, same_number, Square, NumbersLink}
use Rattle.hq_copy_definition.specs.Laws.{RelationshipNumbered, FirstFromIs}
use Rattle.hq_copy_definition.proofs.Square.{linked_square}

-- ---- places

swapped : (a b : Option ℕ) → same_number a b ≡ true → same_number b a ≡ true
swapped None b h = absurd (false≢true h)
swapped (Some n) None h = absurd (false≢true h)
swapped (Some n) (Some m) h = eq-eqb m n (sym (eqb-true n m h))

module _ {B : Type 0} where
  -- tests that agree on the items find the same place
  place_same : (p q : B → Bool) (k : ℕ) (ys : List B) → ((y : B) → Among y ys → p y ≡ q y) → position_from p k ys ≡ position_from q k ys
  place_same p q k [] agree = refl
  place_same p q k (y ∷ ys) agree = ap₂ (λ b o. cond b (Some k) o) (agree y (inl refl)) (place_same p q (k + 1) ys (λ z m. agree z (inr m)))

  -- a test that an item passes finds a place
  place_there : (p : B → Bool) (k : ℕ) (ys : List B) (y : B) → Among y ys → p y ≡ true → same_number (position_from p k ys) (position_from p k ys) ≡ true
  place_there p k [] y m h = absurd m
  place_there p k (z ∷ ys) y m h =
      let here : (b : Bool) → p z ≡ b → same_number (cond b (Some k) (position_from p (k + 1) ys)) (cond b (Some k) (position_from p (k + 1) ys)) ≡ true =
      elim [
        | true ↦ λ e. eq-eqb k k refl
        | false ↦ λ e. ⊎_elim (λ same. absurd (false≢true (sym e ∙ ap p same ∙ h))) (λ later. place_there p (k + 1) ys y later h) m
      ] in
      here (p z) refl

  -- no place lies before the first
  not_before : (p : B → Bool) (k n : ℕ) (ys : List B) → n < k → same_number (Some n) (position_from p k ys) ≡ false
  not_before p k n [] l = refl
  not_before p k n (z ∷ ys) l =
      let here : (b : Bool) → same_number (Some n) (cond b (Some k) (position_from p (k + 1) ys)) ≡ false =
      elim [ true ↦ ne_eqb n k (omega arith) | false ↦ not_before p (k + 1) n ys (omega arith) ] in
      here (p z)

  -- two tests that find the same place are passed by one item
  place_meets : (p q : B → Bool) (k : ℕ) (ys : List B) → same_number (position_from p k ys) (position_from q k ys) ≡ true → (y : B) × Among y ys × (p y ≡ true) × (q y ≡ true)
  place_meets p q k [] h = absurd (false≢true h)
  place_meets p q k (z ∷ ys) h =
      let later : same_number (position_from p (k + 1) ys) (position_from q (k + 1) ys) ≡ true → (y : B) × Among y (z ∷ ys) × (p y ≡ true) × (q y ≡ true) =
      λ g. let found = place_meets p q (k + 1) ys g in (found.0, inr found.1, found.2, found.3) in
      let here : (b c : Bool) → p z ≡ b → q z ≡ c → same_number (cond b (Some k) (position_from p (k + 1) ys)) (cond c (Some k) (position_from q (k + 1) ys)) ≡ true → (y : B) × Among y (z ∷ ys) ×
      (p y ≡ true) × (q y ≡ true) =
      elim [
        | true ↦ elim [ true ↦ λ e f g. (z, inl refl, e, f) | false ↦ λ e f g. absurd (false≢true (sym (not_before q (k + 1) k ys (omega arith)) ∙ g)) ]
        | false ↦ elim [
          | true ↦ λ e f g. absurd (false≢true (sym (not_before p (k + 1) k ys (omega arith)) ∙ swapped (position_from p (k + 1) ys) (Some k) g))
          | false ↦ λ e f g. later g
        ]
      ] in
      here (p z) (q z) refl refl h

-- ---- rows that share a linked row

any_there : {A : Type 0} (p : A → Bool) (xs : List A) (x : A) → Among x xs → p x ≡ true → list_any p xs ≡ true
any_there p [] x m h = absurd m
any_there p (z ∷ xs) x m h = ⊎_elim (λ same. or_left (p z) (list_any p xs) (ap p same ∙ h)) (λ later. or_right (p z) (list_any p xs) (any_there p xs x later h)) m

any_found : {A : Type 0} (p : A → Bool) (xs : List A) → list_any p xs ≡ true → (x : A) × Among x xs × (p x ≡ true)
any_found p [] h = absurd (false≢true h)
any_found p (z ∷ xs) h =
    let here : (b : Bool) → p z ≡ b → (b || list_any p xs) ≡ true → (x : _) × Among x (z ∷ xs) × (p x ≡ true) =
    elim [ true ↦ λ e g. (z, inl refl, e) | false ↦ λ e g. let found = any_found p xs g in (found.0, inr found.1, found.2) ] in
    here (p z) refl h

same_truth : (a b : Bool) → (a ≡ true → b ≡ true) → (b ≡ true → a ≡ true) → a ≡ b
same_truth true b f g = sym (f refl)
same_truth false true f g = g refl
same_truth false false f g = refl

module _ {A B : Type 0} (linked : A → B → Bool) where
  abbrev shares : List A → B → B → Bool
  shares xs y z = list_any (λ x. linked x y && linked x z) xs

  -- what shares a linked row with a row that x is linked to, is linked to x
  shares_is : (xs : List A) (ys : List B) → Square linked xs ys → (x : A) (y : B) → Among x xs → Among y ys → linked x y ≡ true → (z : B) → Among z ys → shares xs y z ≡ linked x z
  shares_is xs ys square x y mx my h z mz =
      same_truth (shares xs y z) (linked x z)
      (λ s. let found = any_found (λ u. linked u y && linked u z) xs s in
      let both = and_parts (linked found.0 y) (linked found.0 z) found.2 in
      square x found.0 y z mx found.1 my mz h both.0 both.1)
      (λ l. any_there (λ u. linked u y && linked u z) xs x mx (ap₂ (λ b c. b && c) h l))

  pub numbers_of : (xs : List A) (ys : List B) → Square linked xs ys → NumbersLink linked xs ys
  numbers_of xs ys square x y m n =
      same_truth (same_number (from_number linked ys x) (to_number linked xs ys y)) (linked x y)
      (λ s. let met = place_meets (linked x) (shares xs y) 1 ys s in
      let found = any_found (λ u. linked u y && linked u met.0) xs met.3 in
      let both = and_parts (linked found.0 y) (linked found.0 met.0) found.2 in
      square x found.0 met.0 y m found.1 met.1 n met.2 both.1 both.0)
      (λ l. subst (λ o. same_number (from_number linked ys x) o ≡ true)
      (place_same (linked x) (shares xs y) 1 ys (λ z mz. sym (shares_is xs ys square x y m n l z mz)))
      (place_there (linked x) 1 ys y n l))

pub relationship_numbered : (ps : List Pair) (xs ys : List Row) → RelationshipNumbered ps xs ys
relationship_numbered ps xs ys = numbers_of (linked_by ps) xs ys (linked_square ps xs ys)

-- ---- the quick way

none_passes : {B : Type 0} (k : ℕ) (ys : List B) → position_from (λ z. false) k ys ≡ None
none_passes k [] = refl
none_passes k (y ∷ ys) = none_passes (k + 1) ys

module _ {A B : Type 0} (linked : A → B → Bool) where
  pub first_of : (xs : List A) (ys : List B) → ((x u : A) (y z : B) → linked x y ≡ true → linked u y ≡ true → linked u z ≡ true → linked x z ≡ true)
      → (y : B) → Among y ys → to_number linked xs ys y ≡ first_from linked xs ys y
  first_of [] ys square y m = none_passes 1 ys
  first_of (x ∷ xs) ys square y m =
      let here : (b : Bool) → linked x y ≡ b → to_number linked (x ∷ xs) ys y ≡ cond b (from_number linked ys x) (first_from linked xs ys y) =
      elim [
        | true ↦ λ e. place_same _ (linked x) 1 ys (λ z n. shares_is linked (x ∷ xs) ys (λ x u y z mx mu my mz. square x u y z) x y (inl refl) m e z n)
        | false ↦ λ e. place_same _ (λ z. list_any (λ u. linked u y && linked u z) xs) 1 ys (λ z n. ap (λ b. (b && linked x z) || list_any (λ u. linked u y && linked u z) xs) e)
            ∙ first_of xs ys square y m
      ] in
      here (linked x y) refl

pub first_from_is : (ps : List Pair) (xs ys : List Row) (y : Row) → Among y ys → FirstFromIs ps xs ys y
first_from_is ps xs ys y m = first_of (linked_by ps) xs ys (λ x u y z a b c. linked_square ps (x ∷ u ∷ []) (y ∷ z ∷ []) x u y z (inl refl) (inr (inl refl)) (inl refl) (inr (inl refl)) a b c) y m
