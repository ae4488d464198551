-- Lists and options under maps.
use Rattle.std.proofs.Common.{◌≡◌, ℕ, zero, suc, ◌+◌, List, [], ◌∷◌, ◌++◌, map, Bool, true, false, cond, not, Option, Some, None, option_map, option_and_then, slice_get, find, position, filter_map, refl, ap}
use Rattle.std.specs.List.{list_any, position_or_len}
use Rattle.std.specs.Option.{option_or, option_map_or}
use Rattle.std.proofs.lemmas.List.{length-map}
use Rattle.hq_gql_nodes.specs.Least.{least_of}

-- ---- lists

pub slice_get_map : {A B : Type 0} (f : A → B) (xs : List A) (i : ℕ) → slice_get (map f xs) i ≡ option_map f (slice_get xs i)
slice_get_map f [] i = refl
slice_get_map f (x ∷ xs) zero = refl
slice_get_map f (x ∷ xs) (suc i) = slice_get_map f xs i

pub find_map : {A B : Type 0} (p : B → Bool) (f : A → B) (xs : List A) → find p (map f xs) ≡ option_map f (find (λ x. p (f x)) xs)
find_map p f [] = refl
find_map p f (x ∷ xs) =
    let later = find_map p f xs in
    let go : (b : Bool) → cond b (Some (f x)) (find p (map f xs)) ≡ option_map f (cond b (Some x) (find (λ y. p (f y)) xs)) = elim [ true ↦ refl | false ↦ later ] in
    go (p (f x))

place_map : {A B : Type 0} (p : B → Bool) (f : A → B) (xs : List A) → position_or_len p (map f xs) ≡ position_or_len (λ x. p (f x)) xs
place_map p f [] = refl
place_map p f (x ∷ xs) = ap (λ n. cond (not (p (f x))) (1 + n) 0) (place_map p f xs)

pub position_map : {A B : Type 0} (p : B → Bool) (f : A → B) (xs : List A) → position p (map f xs) ≡ position (λ x. p (f x)) xs
position_map p f xs = rw (place_map p f xs, length-map xs f) refl

pub map_append : {A B : Type 0} (f : A → B) (xs ys : List A) → map f (xs ++ ys) ≡ map f xs ++ map f ys
map_append f [] ys = refl
map_append f (x ∷ xs) ys = ap (λ l. f x ∷ l) (map_append f xs ys)

pub any_map : {A B : Type 0} (p : B → Bool) (q : A → Bool) (f : A → B) → ((x : A) → p (f x) ≡ q x) → (xs : List A) → list_any p (map f xs) ≡ list_any q xs
any_map p q f same [] = refl
any_map p q f same (x ∷ xs) = rw (same x, any_map p q f same xs) refl

pub filter_map_map : {A B C : Type 0} (g : B → Option C) (h : A → Option C) (f : A → B) → ((x : A) → g (f x) ≡ h x) → (xs : List A) → filter_map g (map f xs) ≡ filter_map h xs
filter_map_map g h f same [] = refl
filter_map_map g h f same (x ∷ xs) = rw (same x, filter_map_map g h f same xs) refl

pub map_alike : {A B : Type 0} (f g : A → B) → ((x : A) → f x ≡ g x) → (xs : List A) → map f xs ≡ map g xs
map_alike f g same [] = refl
map_alike f g same (x ∷ xs) = rw (same x, map_alike f g same xs) refl

pub map_twice : {A B C : Type 0} (g : B → C) (f : A → B) (h : A → C) → ((x : A) → g (f x) ≡ h x) → (xs : List A) → map g (map f xs) ≡ map h xs
map_twice g f h same [] = refl
map_twice g f h same (x ∷ xs) = rw (same x, map_twice g f h same xs) refl

-- the least place of images, by a rule that looks through them
pub least_map : {A B : Type 0} (g : B → Option ℕ) (h : A → Option ℕ) (f : A → B) → ((x : A) → g (f x) ≡ h x) → (xs : List A) → least_of g (map f xs) ≡ least_of h xs
least_map g h f same [] = refl
least_map g h f same (x ∷ xs) = rw (same x, least_map g h f same xs) refl

pub least_alike : {A : Type 0} (g h : A → Option ℕ) → ((x : A) → g x ≡ h x) → (xs : List A) → least_of g xs ≡ least_of h xs
least_alike g h same [] = refl
least_alike g h same (x ∷ xs) = rw (same x, least_alike g h same xs) refl

-- ---- options

pub and_map : {A C B D : Type 0} (f : A → C) (h : B → D) (k : C → Option D) (l : A → Option B) → ((x : A) → k (f x) ≡ option_map h (l x))
    → (o : Option A) → option_and_then k (option_map f o) ≡ option_map h (option_and_then l o)
and_map f h k l same None = refl
and_map f h k l same (Some x) = same x

pub and_same : {A C B : Type 0} (f : A → C) (k : C → Option B) (l : A → Option B) → ((x : A) → k (f x) ≡ l x) → (o : Option A) → option_and_then k (option_map f o) ≡ option_and_then l o
and_same f k l same None = refl
and_same f k l same (Some x) = same x

pub and_alike : {A B : Type 0} (k l : A → Option B) → ((x : A) → k x ≡ l x) → (o : Option A) → option_and_then k o ≡ option_and_then l o
and_alike k l same None = refl
and_alike k l same (Some x) = same x

pub and_over : {A B D : Type 0} (h : B → D) (k : A → Option D) (l : A → Option B) → ((x : A) → k x ≡ option_map h (l x)) → (o : Option A) → option_and_then k o ≡ option_map h (option_and_then l o)
and_over h k l same None = refl
and_over h k l same (Some x) = same x

pub maps_alike : {A C B : Type 0} (f : A → C) (g : C → B) (h : A → B) → ((x : A) → g (f x) ≡ h x) → (o : Option A) → option_map g (option_map f o) ≡ option_map h o
maps_alike f g h same None = refl
maps_alike f g h same (Some x) = ap Some (same x)

pub map_or_same : {A C B : Type 0} (f : A → C) (g : C → B) (h : A → B) (d : B) → ((x : A) → g (f x) ≡ h x) → (o : Option A) → option_map_or g (option_map f o) d ≡ option_map_or h o d
map_or_same f g h d same None = refl
map_or_same f g h d same (Some x) = same x

pub map_or_alike : {A B : Type 0} (g h : A → B) (d : B) → ((x : A) → g x ≡ h x) → (o : Option A) → option_map_or g o d ≡ option_map_or h o d
map_or_alike g h d same None = refl
map_or_alike g h d same (Some x) = same x

pub or_map : {A B : Type 0} (f : A → B) (o p : Option A) → option_or (option_map f o) (option_map f p) ≡ option_map f (option_or o p)
or_map f None p = refl
or_map f (Some x) p = refl

pub cond_map : {A B : Type 0} (f : A → B) (b : Bool) (o p : Option A) → cond b (option_map f o) (option_map f p) ≡ option_map f (cond b o p)
cond_map f true o p = refl
cond_map f false o p = refl
