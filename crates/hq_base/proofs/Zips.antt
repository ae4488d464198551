-- Two lists whose items are related one by one, and what keeps them so.
use Rattle.std.proofs.Common.{◌≡◌, refl, ap, ap₂, ℕ, zero, suc, List, [], ◌∷◌, ◌++◌, map, filter, flat_map, take, drop, length, Bool, true, false, cond, not, ◌||◌, is_gt, Ordering}
use Rattle.std.specs.List.{list_any}
use Rattle.hq_base.specs.Lists.{Zip, Each, put, sort, firsts}

pub zip_weaken : {A B : Type 0} (P Q : A → B → Type 0) → ((x : A) (y : B) → P x y → Q x y) → (xs : List A) (ys : List B) → Zip P xs ys → Zip Q xs ys
zip_weaken P Q step [] [] h = tt
zip_weaken P Q step [] (y ∷ ys) h = absurd h
zip_weaken P Q step (x ∷ xs) [] h = absurd h
zip_weaken P Q step (x ∷ xs) (y ∷ ys) h = (step x y h.0, zip_weaken P Q step xs ys h.1)

-- a list is related to itself, item by item
pub zip_same : {A : Type 0} (Q : A → A → Type 0) (xs : List A) → Each (λ x. Q x x) xs → Zip Q xs xs
zip_same Q [] h = tt
zip_same Q (x ∷ xs) h = (h.0, zip_same Q xs h.1)

-- each item is related to its image
pub zip_image : {A B : Type 0} (Q : A → B → Type 0) (f : A → B) → ((x : A) → Q x (f x)) → (xs : List A) → Zip Q xs (map f xs)
zip_image Q f image [] = tt
zip_image Q f image (x ∷ xs) = (image x, zip_image Q f image xs)

module _ {A B : Type 0} (Q : A → B → Type 0) where
  pub zip_append : (xs : List A) (ys : List B) (us : List A) (vs : List B) → Zip Q xs ys → Zip Q us vs → Zip Q (xs ++ us) (ys ++ vs)
  zip_append [] [] us vs h g = g
  zip_append [] (y ∷ ys) us vs h g = absurd h
  zip_append (x ∷ xs) [] us vs h g = absurd h
  zip_append (x ∷ xs) (y ∷ ys) us vs h g = (h.0, zip_append xs ys us vs h.1 g)

  pub zip_filter : (p : A → Bool) (q : B → Bool) → ((x : A) (y : B) → Q x y → p x ≡ q y) → (xs : List A) (ys : List B) → Zip Q xs ys → Zip Q (filter p xs) (filter q ys)
  zip_filter p q agree [] [] h = tt
  zip_filter p q agree [] (y ∷ ys) h = absurd h
  zip_filter p q agree (x ∷ xs) [] h = absurd h
  zip_filter p q agree (x ∷ xs) (y ∷ ys) h =
      let later = zip_filter p q agree xs ys h.1 in
      let kept : (b : Bool) → Zip Q (cond b (x ∷ filter p xs) (filter p xs)) (cond b (y ∷ filter q ys) (filter q ys)) = elim [ true ↦ (h.0, later) | false ↦ later ] in
      rw (agree x y h.0) (kept (q y))

  module _ (R : A → A → Ordering) (S : B → B → Ordering) (agree : (x : A) (y : B) (u : A) (v : B) → Q x y → Q u v → R x u ≡ S y v) where
    pub zip_put : (x : A) (y : B) → Q x y → (us : List A) (vs : List B) → Zip Q us vs → Zip Q (put R x us) (put S y vs)
    zip_put x y h [] [] g = (h, tt)
    zip_put x y h [] (v ∷ vs) g = absurd g
    zip_put x y h (u ∷ us) [] g = absurd g
    zip_put x y h (u ∷ us) (v ∷ vs) g =
        let later = zip_put x y h us vs g.1 in
        let placed : (b : Bool) → Zip Q (cond b (u ∷ put R x us) (x ∷ (u ∷ us))) (cond b (v ∷ put S y vs) (y ∷ (v ∷ vs))) = elim [ true ↦ (g.0, later) | false ↦ (h, g) ] in
        rw (agree x y u v h g.0) (placed (is_gt (S y v)))

    pub zip_sort : (xs : List A) (ys : List B) → Zip Q xs ys → Zip Q (sort R xs) (sort S ys)
    zip_sort [] [] h = tt
    zip_sort [] (y ∷ ys) h = absurd h
    zip_sort (x ∷ xs) [] h = absurd h
    zip_sort (x ∷ xs) (y ∷ ys) h = zip_put x y h.0 (sort R xs) (sort S ys) (zip_sort xs ys h.1)

  module _ (same : A → A → Bool) (alike : B → B → Bool) (agree : (x : A) (y : B) (u : A) (v : B) → Q x y → Q u v → same x u ≡ alike y v) where
    pub zip_firsts : (xs : List A) (ys : List B) → Zip Q xs ys → Zip Q (firsts same xs) (firsts alike ys)
    zip_firsts [] [] h = tt
    zip_firsts [] (y ∷ ys) h = absurd h
    zip_firsts (x ∷ xs) [] h = absurd h
    zip_firsts (x ∷ xs) (y ∷ ys) h =
        (h.0, zip_filter (λ u. not (same x u)) (λ v. not (alike y v)) (λ u v g. ap not (agree x y u v h.0 g)) (firsts same xs) (firsts alike ys) (zip_firsts xs ys h.1))

  pub zip_take : (n : ℕ) (xs : List A) (ys : List B) → Zip Q xs ys → Zip Q (take n xs) (take n ys)
  zip_take zero xs ys h = tt
  zip_take (suc n) [] [] h = tt
  zip_take (suc n) [] (y ∷ ys) h = absurd h
  zip_take (suc n) (x ∷ xs) [] h = absurd h
  zip_take (suc n) (x ∷ xs) (y ∷ ys) h = (h.0, zip_take n xs ys h.1)

  pub zip_drop : (n : ℕ) (xs : List A) (ys : List B) → Zip Q xs ys → Zip Q (drop n xs) (drop n ys)
  zip_drop zero xs ys h = h
  zip_drop (suc n) [] [] h = tt
  zip_drop (suc n) [] (y ∷ ys) h = absurd h
  zip_drop (suc n) (x ∷ xs) [] h = absurd h
  zip_drop (suc n) (x ∷ xs) (y ∷ ys) h = zip_drop n xs ys h.1

  pub zip_any : (p : A → Bool) (q : B → Bool) → ((x : A) (y : B) → Q x y → p x ≡ q y) → (xs : List A) (ys : List B) → Zip Q xs ys → list_any p xs ≡ list_any q ys
  zip_any p q agree [] [] h = refl
  zip_any p q agree [] (y ∷ ys) h = absurd h
  zip_any p q agree (x ∷ xs) [] h = absurd h
  zip_any p q agree (x ∷ xs) (y ∷ ys) h = ap₂ (λ a b. a || b) (agree x y h.0) (zip_any p q agree xs ys h.1)

  pub zip_length : (xs : List A) (ys : List B) → Zip Q xs ys → length xs ≡ length ys
  zip_length [] [] h = refl
  zip_length [] (y ∷ ys) h = absurd h
  zip_length (x ∷ xs) [] h = absurd h
  zip_length (x ∷ xs) (y ∷ ys) h = ap suc (zip_length xs ys h.1)

  pub zip_map : {C : Type 0} (f : A → C) (g : B → C) → ((x : A) (y : B) → Q x y → f x ≡ g y) → (xs : List A) (ys : List B) → Zip Q xs ys → map f xs ≡ map g ys
  zip_map f g agree [] [] h = refl
  zip_map f g agree [] (y ∷ ys) h = absurd h
  zip_map f g agree (x ∷ xs) [] h = absurd h
  zip_map f g agree (x ∷ xs) (y ∷ ys) h = ap₂ (λ a b. a ∷ b) (agree x y h.0) (zip_map f g agree xs ys h.1)

  pub zip_flat_map : {C : Type 0} (f : A → List C) (g : B → List C) → ((x : A) (y : B) → Q x y → f x ≡ g y) → (xs : List A) (ys : List B) → Zip Q xs ys → flat_map f xs ≡ flat_map g ys
  zip_flat_map f g agree [] [] h = refl
  zip_flat_map f g agree [] (y ∷ ys) h = absurd h
  zip_flat_map f g agree (x ∷ xs) [] h = absurd h
  zip_flat_map f g agree (x ∷ xs) (y ∷ ys) h = ap₂ (λ a b. a ++ b) (agree x y h.0) (zip_flat_map f g agree xs ys h.1)

  -- images are related where the items are
  pub zip_images : {C D : Type 0} (S : C → D → Type 0) (f : A → C) (g : B → D) → ((x : A) (y : B) → Q x y → S (f x) (g y)) → (xs : List A) (ys : List B) → Zip Q xs ys → Zip S (map f xs) (map g ys)
  zip_images S f g step [] [] h = tt
  zip_images S f g step [] (y ∷ ys) h = absurd h
  zip_images S f g step (x ∷ xs) [] h = absurd h
  zip_images S f g step (x ∷ xs) (y ∷ ys) h = (step x y h.0, zip_images S f g step xs ys h.1)

-- lists that are related to one list are related to each other
pub zip_join : {A B C : Type 0} (P : A → C → Type 0) (Q : B → C → Type 0) (xs : List A) (ys : List B) (zs : List C) → Zip P xs zs → Zip Q ys zs → Zip (λ x y. (z : C) × P x z × Q y z) xs ys
zip_join P Q [] [] zs h g = tt
zip_join P Q [] (y ∷ ys) [] h g = absurd g
zip_join P Q [] (y ∷ ys) (z ∷ zs) h g = absurd h
zip_join P Q (x ∷ xs) [] [] h g = absurd h
zip_join P Q (x ∷ xs) [] (z ∷ zs) h g = absurd g
zip_join P Q (x ∷ xs) (y ∷ ys) [] h g = absurd h
zip_join P Q (x ∷ xs) (y ∷ ys) (z ∷ zs) h g = ((z, h.0, g.0), zip_join P Q xs ys zs h.1 g.1)
