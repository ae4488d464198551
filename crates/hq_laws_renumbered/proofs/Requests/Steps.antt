-- Steps that are taken with two values, of which one is the other in other numbers.
use Rattle.std.proofs.Common.{◌≡◌, ◌∙◌, refl, ap, ap₂, subst, List, [], ◌∷◌, map, Result, Ok, Err}
use Rattle.hq_base.specs.Due.{mapped, and_then}
use Rattle.hq_base.specs.Lists.{Each}
use Rattle.hq_request_arguments.specs.Reading.{Read, each}

-- a next step after a value under g
pub then_over : {X Y V W E : Type 0} (g : X → V) (h : Y → W) (f : X → Result Y E) (k : V → Result W E) (x : Result X E) (y : Result V E) → y ≡ mapped g x
    → ((v : X) → x ≡ Ok v → k (g v) ≡ mapped h (f v)) → and_then k y ≡ mapped h (and_then f x)
then_over g h f k (Ok v) y e step = ap (and_then k) e ∙ step v refl
then_over g h f k (Err z) y e step = ap (and_then k) e

-- a next step after the same value
pub then_same : {X Y W E : Type 0} (h : Y → W) (f : X → Result Y E) (k : X → Result W E) (x y : Result X E) → y ≡ x → ((v : X) → x ≡ Ok v → k v ≡ mapped h (f v))
    → and_then k y ≡ mapped h (and_then f x)
then_same h f k (Ok v) y e step = ap (and_then k) e ∙ step v refl
then_same h f k (Err z) y e step = ap (and_then k) e

pub mapped_over : {X Y V W E : Type 0} (g : X → V) (h : Y → W) (f : X → Y) (k : V → W) → ((v : X) → k (g v) ≡ h (f v)) → (x : Result X E) (y : Result V E) → y ≡ mapped g x
    → mapped k y ≡ mapped h (mapped f x)
mapped_over g h f k same (Ok v) y e = ap (mapped k) e ∙ ap Ok (same v)
mapped_over g h f k same (Err z) y e = ap (mapped k) e

pub mapped_same : {X Y W E : Type 0} (h : Y → W) (f : X → Y) (k : X → W) → ((v : X) → k v ≡ h (f v)) → (x y : Result X E) → y ≡ x → mapped k y ≡ mapped h (mapped f x)
mapped_same h f k same (Ok v) y e = ap (mapped k) e ∙ ap Ok (same v)
mapped_same h f k same (Err z) y e = ap (mapped k) e

pub mapped_itself : {X E : Type 0} (x : Result X E) → mapped (λ v. v) x ≡ x
mapped_itself (Ok v) = refl
mapped_itself (Err z) = refl

pub then_mapped : {X Y V E : Type 0} (k : Y → Result V E) (g : X → Y) (x : Result X E) → and_then k (mapped g x) ≡ and_then (λ v. k (g v)) x
then_mapped k g (Ok v) = refl
then_mapped k g (Err z) = refl

-- a value under f was f of a value, and a step gave a value to the next one
pub mapped_ok : {X Y E : Type 0} (f : X → Y) (r : Result X E) (y : Y) → mapped f r ≡ Ok y → (x : X) × (r ≡ Ok x) × (f x ≡ y)
mapped_ok f (Ok x) y e = let same : f x ≡ y = cc in (x, refl, same)
mapped_ok f (Err z) y e = absurd cc

pub then_ok : {X Y E : Type 0} (f : X → Result Y E) (r : Result X E) (y : Y) → and_then f r ≡ Ok y → (x : X) × (r ≡ Ok x) × (f x ≡ Ok y)
then_ok f (Ok x) y e = (x, refl, e)
then_ok f (Err z) y e = absurd cc

-- ---- items

pub each_over : {A B C : Type 0} (g : B → C) (f : A → Read B) (k : A → Read C) → ((x : A) → k x ≡ mapped g (f x)) → (xs : List A) → each k xs ≡ mapped (map g) (each f xs)
each_over g f k same [] = refl
each_over g f k same (x ∷ xs) =
    then_over g (map g) (λ y. mapped (λ ys. y ∷ ys) (each f xs)) (λ y. mapped (λ ys. y ∷ ys) (each k xs)) (f x) (k x) (same x)
    (λ y e. mapped_over (map g) (map g) (λ ys. y ∷ ys) (λ ys. g y ∷ ys) (λ ys. refl) (each f xs) (each k xs) (each_over g f k same xs))

-- items under i, of which the same is read as of those that they stand for
pub each_images : {A D B : Type 0} (P : A → Type 0) (i : A → D) (f : A → Read B) (k : D → Read B) → ((x : A) → P x → k (i x) ≡ f x) → (xs : List A) → Each P xs → each k (map i xs) ≡ each f xs
each_images P i f k same [] h = refl
each_images P i f k same (x ∷ xs) h =
    ap₂ (λ more one. and_then (λ y. mapped (λ ys. y ∷ ys) more) one) (each_images P i f k same xs h.1) (same x h.0)

-- what is read of each item has a fact that reading gives it
pub each_ok : {A B : Type 0} (read : A → Read B) (Q : B → Type 0) → ((x : A) (y : B) → read x ≡ Ok y → Q y) → (xs : List A) (ys : List B) → each read xs ≡ Ok ys → Each Q ys
each_ok read Q step [] ys e = let same : [] ≡ ys = cc in subst (Each Q) same tt
each_ok read Q step (x ∷ xs) ys e =
    let one = then_ok (λ y. mapped (λ ys. y ∷ ys) (each read xs)) (read x) ys e in
    let two = mapped_ok (λ zs. one.0 ∷ zs) (each read xs) ys one.2 in
    subst (Each Q) two.2 (step x one.0 one.1, each_ok read Q step xs two.0 two.1)
