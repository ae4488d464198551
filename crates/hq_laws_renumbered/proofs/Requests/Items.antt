-- Items of mapped, searched and filtered lists.
use Rattle.std.proofs.Common.{◌≡◌, ◌∙◌, refl, sym, ap, ap₂, subst, ℕ, zero, suc, List, [], ◌∷◌, ◌++◌, map, take, filter, find, Bool, true, false, cond, not, ◌&&◌, ◌||◌, ◌==◌, Option, Some, None, option_map, option_and_then, slice_get}
use Rattle.std.specs.List.{list_all, list_any}
use Rattle.std.proofs.lemmas.Bool.{eq-eqb, eqb-true, ne_eqb, false≢true}
use Rattle.hq_base.specs.Lists.{Each, firsts}

pub find_map : {A B : Type 0} (p : B → Bool) (f : A → B) (xs : List A) → find p (map f xs) ≡ option_map f (find (λ x. p (f x)) xs)
find_map p f [] = refl
find_map p f (x ∷ xs) =
    let later = find_map p f xs in
    let go : (b : Bool) → cond b (Some (f x)) (find p (map f xs)) ≡ option_map f (cond b (Some x) (find (λ y. p (f y)) xs)) = elim [ true ↦ refl | false ↦ later ] in
    go (p (f x))

-- ---- facts of items

pub each_at : {A : Type 0} (P : A → Type 0) (xs : List A) (i : ℕ) (x : A) → slice_get xs i ≡ Some x → Each P xs → P x
each_at P [] i x e h = cc
each_at P (y ∷ ys) zero x e h = let same : y ≡ x = cc in subst P same h.0
each_at P (y ∷ ys) (suc i) x e h = each_at P ys i x e h.1

-- an item that is found passes the test
pub found_each : {A : Type 0} (P : A → Type 0) (p : A → Bool) (xs : List A) (x : A) → find p xs ≡ Some x → Each P xs → P x × (p x ≡ true)
found_each P p [] x e h = cc
found_each P p (y ∷ ys) x e h = go (p y) refl e (λ later. found_each P p ys x later h.1)
  where
    go : (b : Bool) → p y ≡ b → cond b (Some y) (find p ys) ≡ Some x → (find p ys ≡ Some x → P x × (p x ≡ true)) → P x × (p x ≡ true)
    go true is e rest = let same : y ≡ x = cc in (subst P same h.0, subst (λ z. p z ≡ true) same is)
    go false is e rest = rest e

pub each_append : {A : Type 0} (P : A → Type 0) (xs ys : List A) → Each P xs → Each P ys → Each P (xs ++ ys)
each_append P [] ys h k = k
each_append P (x ∷ xs) ys h k = (h.0, each_append P xs ys h.1 k)

pub each_take : {A : Type 0} (P : A → Type 0) (n : ℕ) (xs : List A) → Each P xs → Each P (take n xs)
each_take P zero [] h = tt
each_take P zero (x ∷ xs) h = tt
each_take P (suc n) [] h = tt
each_take P (suc n) (x ∷ xs) h = (h.0, each_take P n xs h.1)

each_kept : {A : Type 0} (P : A → Type 0) (q : A → Bool) (xs : List A) → Each P xs → Each P (filter q xs)
each_kept P q [] h = tt
each_kept P q (x ∷ xs) h = go (q x) (each_kept P q xs h.1)
  where
    go : (b : Bool) → Each P (filter q xs) → Each P (cond b (x ∷ filter q xs) (filter q xs))
    go true rest = (h.0, rest)
    go false rest = rest

-- the step from an option to a value
pub option_some : {X Y : Type 0} (f : X → Option Y) (o : Option X) (y : Y) → option_and_then f o ≡ Some y → (x : X) × (o ≡ Some x) × (f x ≡ Some y)
option_some f (Some x) y e = (x, refl, e)
option_some f None y e = absurd cc

-- ---- numbers that differ have different images

module _ (P : ℕ → Type 0) (f : ℕ → ℕ) (apart : (c d : ℕ) → P c → P d → f c ≡ f d → c ≡ d) where
  pub same_test : (c d : ℕ) → P c → P d → (f c == f d) ≡ (c == d)
  same_test c d p q = go (c == d) refl
    where
      go : (b : Bool) → (c == d) ≡ b → (f c == f d) ≡ b
      go true e = eq-eqb (f c) (f d) (ap f (eqb-true c d e))
      go false e = ne_eqb (f c) (f d) (λ same. false≢true (sym e ∙ eq-eqb c d (apart c d p q same)))

  others_map : (c : ℕ) → P c → (ds : List ℕ) → Each P ds → filter (λ y. not (f c == y)) (map f ds) ≡ map f (filter (λ y. not (c == y)) ds)
  others_map c p [] h = refl
  others_map c p (d ∷ ds) h =
      let later = others_map c p ds h.1 in
      let go : (b : Bool)
      → cond (not b) (f d ∷ filter (λ y. not (f c == y)) (map f ds)) (filter (λ y. not (f c == y)) (map f ds))
      ≡ map f (cond (not b) (d ∷ filter (λ y. not (c == y)) ds) (filter (λ y. not (c == y)) ds)) =
      elim [ true ↦ later | false ↦ ap (λ l. f d ∷ l) later ] in
      ap (λ b. cond (not b) (f d ∷ filter (λ y. not (f c == y)) (map f ds)) (filter (λ y. not (f c == y)) (map f ds))) (same_test c d p h.0) ∙ go (c == d)

  firsts_each : (ds : List ℕ) → Each P ds → Each P (firsts (λ c d. c == d) ds)
  firsts_each [] h = tt
  firsts_each (d ∷ ds) h = (h.0, each_kept P (λ y. not (d == y)) (firsts (λ c d. c == d) ds) (firsts_each ds h.1))

  -- as many different ones
  pub firsts_map : (ds : List ℕ) → Each P ds → firsts (λ c d. c == d) (map f ds) ≡ map f (firsts (λ c d. c == d) ds)
  firsts_map [] h = refl
  firsts_map (d ∷ ds) h =
      ap (λ l. f d ∷ filter (λ y. not (f d == y)) l) (firsts_map ds h.1)
      ∙ ap (λ l. f d ∷ l) (others_map d h.0 (firsts (λ c d. c == d) ds) (firsts_each ds h.1))

  pub any_same : (d : ℕ) → P d → (cs : List ℕ) → Each P cs → list_any (λ c. c == f d) (map f cs) ≡ list_any (λ c. c == d) cs
  any_same d p [] h = refl
  any_same d p (c ∷ cs) h = ap₂ (λ a b. a || b) (same_test c d h.0 p) (any_same d p cs h.1)

  pub all_same : (d : ℕ) → P d → (cs : List ℕ) → Each P cs → list_all (λ c. c == f d) (map f cs) ≡ list_all (λ c. c == d) cs
  all_same d p [] h = refl
  all_same d p (c ∷ cs) h = ap₂ (λ a b. a && b) (same_test c d h.0 p) (all_same d p cs h.1)
