-- Facts of each item of joined, mapped and filtered lists, and items by their places.
use Rattle.std.proofs.Common.{◌≡◌, ◌∙◌, refl, sym, ap, ℕ, zero, suc, ◌+◌, ◌<◌, List, [], ◌∷◌, ◌++◌, length, map, Bool, true, false, Option, Some, None, subst, arith}
use Rattle.std.specs.Prelude.{find, flat_map, slice_get, IfSome}
use Rattle.std.specs.List.{filter_map, cons_option}
use Rattle.hq_base.specs.Lists.{Each}

pub each_append : {A : Type 0} (P : A → Type 0) (xs ys : List A) → Each P xs → Each P ys → Each P (xs ++ ys)
each_append P [] ys h g = g
each_append P (x ∷ xs) ys h g = (h.0, each_append P xs ys h.1 g)

pub each_map : {A B : Type 0} (P : B → Type 0) (Q : A → Type 0) (f : A → B) → ((x : A) → Q x → P (f x)) → (xs : List A) → Each Q xs → Each P (map f xs)
each_map P Q f step [] h = tt
each_map P Q f step (x ∷ xs) h = (step x h.0, each_map P Q f step xs h.1)

pub each_flat_map : {A B : Type 0} (P : B → Type 0) (Q : A → Type 0) (f : A → List B) → ((x : A) → Q x → Each P (f x)) → (xs : List A) → Each Q xs → Each P (flat_map f xs)
each_flat_map P Q f step [] h = tt
each_flat_map P Q f step (x ∷ xs) h = each_append P (f x) (flat_map f xs) (step x h.0) (each_flat_map P Q f step xs h.1)

-- what is there of an item, if it is there
pub each_cons_option : {A : Type 0} (P : A → Type 0) (o : Option A) (xs : List A) → IfSome o P → Each P xs → Each P (cons_option o xs)
each_cons_option P None xs h g = g
each_cons_option P (Some x) xs h g = (h, g)

pub each_filter_map : {A B : Type 0} (P : B → Type 0) (Q : A → Type 0) (f : A → Option B) → ((x : A) → Q x → IfSome (f x) P) → (xs : List A) → Each Q xs → Each P (filter_map f xs)
each_filter_map P Q f step [] h = tt
each_filter_map P Q f step (x ∷ xs) h = each_cons_option P (f x) (filter_map f xs) (step x h.0) (each_filter_map P Q f step xs h.1)

-- what is found is one of the items, and passes the test
pub found_each : {A : Type 0} (P : A → Type 0) (p : A → Bool) (xs : List A) (x : A) → find p xs ≡ Some x → Each P xs → P x × (p x ≡ true)
found_each P p [] x e h = cc
found_each {A = A} P p (y ∷ ys) x e h = by (p y) refl (λ later. found_each P p ys x later h.1)
  where
    by : (b : Bool) → p y ≡ b → (find p ys ≡ Some x → P x × (p x ≡ true)) → P x × (p x ≡ true)
    by true q rest =
        let here : Some y ≡ Some x = rw q at e in
        let same : y ≡ x = cc in
        (subst P same h.0, ap p (sym same) ∙ q)
    by false q rest = rest (rw q at e)

-- an item of the middle of three lists
pub get_middle : {A : Type 0} (front block rest : List A) (i : ℕ) → i < length block → slice_get (front ++ (block ++ rest)) (length front + i) ≡ slice_get block i
get_middle [] [] rest i h = absurd (omega arith)
get_middle [] (x ∷ block) rest zero h = refl
get_middle [] (x ∷ block) rest (suc i) h =
    let later : i < length block = omega arith in
    let e : 0 + suc i ≡ suc (0 + i) = omega arith in
    rw e (get_middle [] block rest i later)
get_middle (y ∷ front) block rest i h =
    let e : suc (length front) + i ≡ suc (length front + i) = omega arith in
    rw e (get_middle front block rest i h)

-- an item that is there stands within the list
pub got_within : {A : Type 0} (xs : List A) (i : ℕ) (x : A) → slice_get xs i ≡ Some x → i < length xs
got_within [] i x e = cc
got_within (y ∷ ys) zero x e = omega arith
got_within (y ∷ ys) (suc i) x e = let later : i < length ys = got_within ys i x e in omega arith

-- the item behind a front
pub get_seam : {A : Type 0} (front : List A) (x : A) (rest : List A) → slice_get (front ++ x ∷ rest) (length front) ≡ Some x
get_seam [] x rest = refl
get_seam (y ∷ front) x rest = get_seam front x rest
