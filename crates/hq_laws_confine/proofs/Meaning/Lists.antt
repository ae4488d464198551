-- Lists: facts of each item, what a filter may leave out, and lists related item by item.
use Rattle.std.proofs.Common.{◌≡◌, ℕ, zero, suc, ◌<◌, List, [], ◌∷◌, ◌++◌, map, filter, flat_map, length, Bool, true, false, cond, ◌||◌, Option, Some, None, refl, sym, ap, ◌∙◌, arith}
use Rattle.std.specs.Prelude.{slice_index_or}
use Rattle.std.specs.List.{list_all, list_any}
use Rattle.std.proofs.lemmas.Bool.{and_parts}
use Rattle.std.proofs.lemmas.List.Elements.{filter-append}
use Rattle.hq_base.specs.Lists.{Each, Zip}
use Rattle.hq_base.proofs.Zips.{zip_append, zip_weaken, zip_take, zip_drop}
use Rattle.hq_sql_tree.specs.Meaning.{limited, offset_by}

pub bool_same : (b c : Bool) → (b ≡ true → c ≡ true) → (c ≡ true → b ≡ true) → b ≡ c
bool_same true c f g = sym (f refl)
bool_same false true f g = g refl
bool_same false false f g = refl

pub not_true : (b : Bool) → (b ≡ true → ⊥) → b ≡ false
not_true true h = absurd (h refl)
not_true false h = refl

-- ---- a fact of each item

module _ {A : Type 0} where
  pub each_append : (P : A → Type 0) (xs ys : List A) → Each P xs → Each P ys → Each P (xs ++ ys)
  each_append P [] ys h g = g
  each_append P (x ∷ xs) ys h g = (h.0, each_append P xs ys h.1 g)

  pub each_at : (P : A → Type 0) (xs : List A) (n : ℕ) (d : A) → n < length xs → Each P xs → P (slice_index_or xs n d)
  each_at P [] n d lt h = absurd (omega arith)
  each_at P (x ∷ xs) zero d lt h = h.0
  each_at P (x ∷ xs) (suc n) d lt h = each_at P xs n d (omega arith) h.1

  -- what is so of each item, of items found among them, and of items all of which pass
  pub all_each : (p : A → Bool) (xs : List A) → list_all p xs ≡ true → Each (λ x. p x ≡ true) xs
  all_each p [] h = tt
  all_each p (x ∷ xs) h = let parts = and_parts (p x) (list_all p xs) h in (parts.0, all_each p xs parts.1)

  pub each_all_true : (p : A → Bool) (xs : List A) → Each (λ x. p x ≡ true) xs → list_all p xs ≡ true
  each_all_true p [] h = refl
  each_all_true p (x ∷ xs) h = rw h.0 (each_all_true p xs h.1)

  pub found_each : (p : A → Bool) (P R : A → Type 0) (xs : List A) → list_any p xs ≡ true → Each P xs → ((x : A) → p x ≡ true → P x → R x) → (x : A) × R x
  found_each p P R [] a h f = cc
  found_each p P R (x ∷ xs) a h f =
      let go : (b : Bool) → p x ≡ b → (b || list_any p xs) ≡ true → (y : A) × R y = elim [ true ↦ λ e k. (x, f x e h.0) | false ↦ λ e k. found_each p P R xs k h.1 f ] in
      go (p x) refl a

  pub each_two : (P Q R : A → Type 0) → ((x : A) → P x → Q x → R x) → (xs : List A) → Each P xs → Each Q xs → Each R xs
  each_two P Q R f [] h g = tt
  each_two P Q R f (x ∷ xs) h g = (f x h.0 g.0, each_two P Q R f xs h.1 g.1)

  -- ---- filters

  pub filter_none : (p : A → Bool) (xs : List A) → Each (λ x. p x ≡ false) xs → filter p xs ≡ []
  filter_none p [] h = refl
  filter_none p (x ∷ xs) h = rw h.0 (filter_none p xs h.1)

module _ {A B : Type 0} where
  pub each_map : (P : B → Type 0) (f : A → B) → ((x : A) → P (f x)) → (xs : List A) → Each P (map f xs)
  each_map P f e [] = tt
  each_map P f e (x ∷ xs) = (e x, each_map P f e xs)

  pub each_flat_map : (Q : A → Type 0) (P : B → Type 0) (F : A → List B) → ((x : A) → Q x → Each P (F x)) → (xs : List A) → Each Q xs → Each P (flat_map F xs)
  each_flat_map Q P F e [] h = tt
  each_flat_map Q P F e (x ∷ xs) h = each_append P (F x) (flat_map F xs) (e x h.0) (each_flat_map Q P F e xs h.1)

  -- items all of whose images a filter leaves out may be left out before
  pub only_some : (F : A → List B) (K : B → Bool) (ok : A → Bool) → (rs : List A)
      → Each (λ r. ok r ≡ false → Each (λ g. K g ≡ false) (F r)) rs → filter K (flat_map F rs) ≡ filter K (flat_map F (filter ok rs))
  only_some F K ok [] h = refl
  only_some F K ok (r ∷ rs) h =
      let later = only_some F K ok rs h.1 in
      let go : (b : Bool) → ok r ≡ b → filter K (F r ++ flat_map F rs) ≡ filter K (flat_map F (cond b (r ∷ filter ok rs) (filter ok rs))) =
      elim [
        | true ↦ λ e. filter-append K (F r) (flat_map F rs) ∙ ap (λ l. filter K (F r) ++ l) later ∙ sym (filter-append K (F r) (flat_map F (filter ok rs)))
        | false ↦ λ e. filter-append K (F r) (flat_map F rs) ∙ ap (λ l. l ++ filter K (flat_map F rs)) (filter_none K (F r) (h.0 e)) ∙ later
      ] in
      go (ok r) refl

  pub filter_flat : (q : B → Bool) (G : A → List B) (xs : List A) → filter q (flat_map G xs) ≡ flat_map (λ x. filter q (G x)) xs
  filter_flat q G [] = refl
  filter_flat q G (x ∷ xs) = filter-append q (G x) (flat_map G xs) ∙ ap (λ l. filter q (G x) ++ l) (filter_flat q G xs)

-- ---- lists related item by item

pub zip_flat : {A B C D : Type 0} (R : A → B → Type 0) (S : C → D → Type 0) (f : A → List C) (g : B → List D)
    → ((x : A) (y : B) → R x y → Zip S (f x) (g y)) → (xs : List A) (ys : List B) → Zip R xs ys → Zip S (flat_map f xs) (flat_map g ys)
zip_flat R S f g step [] [] h = tt
zip_flat R S f g step [] (y ∷ ys) h = absurd h
zip_flat R S f g step (x ∷ xs) [] h = absurd h
zip_flat R S f g step (x ∷ xs) (y ∷ ys) h = zip_append S (f x) (g y) (flat_map f xs) (flat_map g ys) (step x y h.0) (zip_flat R S f g step xs ys h.1)

module _ {A B : Type 0} (R : A → B → Type 0) where
  pub zip_limited : (n : Option ℕ) (xs : List A) (ys : List B) → Zip R xs ys → Zip R (limited n xs) (limited n ys)
  zip_limited None xs ys h = h
  zip_limited (Some n) xs ys h = zip_take R n xs ys h

  pub zip_offset : (n : Option ℕ) (xs : List A) (ys : List B) → Zip R xs ys → Zip R (offset_by n xs) (offset_by n ys)
  zip_offset None xs ys h = h
  zip_offset (Some n) xs ys h = zip_drop R n xs ys h

-- two lists of one length, place by place
pub zip_places : {A : Type 0} (d : A) (xs ys : List A) → length xs ≡ length ys → Zip (λ x y. (p : ℕ) × (p < length xs) × (x ≡ slice_index_or xs p d) × (y ≡ slice_index_or ys p d)) xs ys
zip_places d [] [] h = tt
zip_places d [] (y ∷ ys) h = absurd (omega arith)
zip_places d (x ∷ xs) [] h = absurd (omega arith)
zip_places d (x ∷ xs) (y ∷ ys) h =
    let same : length xs ≡ length ys = omega arith in (
      (zero, omega arith, refl, refl),
      zip_weaken (λ a b. (p : ℕ) × (p < length xs) × (a ≡ slice_index_or xs p d) × (b ≡ slice_index_or ys p d))
          (λ a b. (p : ℕ) × (p < suc (length xs)) × (a ≡ slice_index_or (x ∷ xs) p d) × (b ≡ slice_index_or (y ∷ ys) p d))
          (λ a b r. (suc r.0, let lt = r.1 in omega arith, r.2, r.3)) xs ys (zip_places d xs ys same),
    )

-- two lists with the same images, place by place, and beyond
pub images_at : {A B C : Type 0} (F G : A → B) (p q : A → C) (z : A) → ((x y : A) → F x ≡ G y → p x ≡ q y) → p z ≡ q z → (xs ys : List A)
    → map F xs ≡ map G ys → (n : ℕ) → p (slice_index_or xs n z) ≡ q (slice_index_or ys n z)
images_at F G p q z step end [] [] h n = end
images_at F G p q z step end [] (y ∷ ys) h n = cc
images_at F G p q z step end (x ∷ xs) [] h n = cc
images_at F G p q z step end (x ∷ xs) (y ∷ ys) h zero = let same : F x ≡ G y = cc in step x y same
images_at F G p q z step end (x ∷ xs) (y ∷ ys) h (suc n) = let same : map F xs ≡ map G ys = cc in images_at F G p q z step end xs ys same n

pub images_each : {A B : Type 0} (F G : A → B) (xs : List A) → map F xs ≡ map G xs → Each (λ x. F x ≡ G x) xs
images_each F G [] h = tt
images_each F G (x ∷ xs) h = let here : F x ≡ G x = cc in let later : map F xs ≡ map G xs = cc in (here, images_each F G xs later)
