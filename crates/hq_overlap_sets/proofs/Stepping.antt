-- One step of a loop over a list, and its end.
use Rattle.std.proofs.Common.{◌≡◌, ℕ, ◌+◌, ◌<◌, ◌≤◌, map, take, get_or, List, length, sym, subst, Result, Ok, Err}
use Rattle.std.specs.List.{Contains, All}
use Rattle.std.specs.Result.{IfOk, OnOk}
use Rattle.std.proofs.lemmas.List.{take_all, length-map, get_or-map}
use Rattle.std.proofs.lemmas.List.Elements.{All-more, All-weaker, All-map, Contains-get_or}

pub on_ok_weaker2 : {T E P Q R : Type 0} (r : Result T E) → (P → Q → R) → OnOk r P → OnOk r Q → OnOk r R
on_ok_weaker2 (Ok x) f p q = f p q
on_ok_weaker2 (Err e) f p q = tt

pub on_ok_weaker3 : {T E P Q R S : Type 0} (r : Result T E) → (P → Q → R → S) → OnOk r P → OnOk r Q → OnOk r R → OnOk r S
on_ok_weaker3 (Ok x) f p q s = f p q s
on_ok_weaker3 (Err e) f p q s = tt

pub if_ok_weaker2 : {T E : Type 0} {P Q R : T → Type 0} (r : Result T E) → ((x : T) → P x → Q x → R x) → IfOk r P → IfOk r Q → IfOk r R
if_ok_weaker2 (Ok x) f p q = f x p q
if_ok_weaker2 (Err e) f p q = tt

-- one more of a list, under facts that a step keeps
pub all_more : {X : Type 0} (P Q : X → Type 0) → ((x : X) → P x → Q x) → (xs : List X) (i : ℕ) (d : X) → i < length xs → All P (take i xs) → Q (get_or xs i d) → All Q (take (i + 1) xs)
all_more P Q kept xs i d h before now = All-more Q xs i d h (All-weaker P Q kept (take i xs) before) now

pub all_more_item : {X : Type 0} (P Q : X → Type 0) → ((x : X) → P x → Q x) → (xs : List X) (i : ℕ) (x : X) → i < length xs → x ≡ get_or xs i x → All P (take i xs) → Q x → All Q (take (i + 1) xs)
all_more_item P Q kept xs i x h is before now = all_more P Q kept xs i x h before (subst Q is now)

-- an element that is seen in a list
pub contained : {X Y : Type 0} (f : X → Y) (xs : List X) (ys : List Y) (i : ℕ) (d : X) → map f xs ≡ ys → i < length xs → Contains ys (f (get_or xs i d))
contained f xs ys i d e h =
    let long : i < length (map f xs) = subst (λ (n : ℕ). i < n) (sym (length-map xs f)) h in
    subst (λ zs. Contains zs (f (get_or xs i d))) e (subst (Contains (map f xs)) (get_or-map f xs i d (f d) h) (Contains-get_or (map f xs) i (f d) long))

pub contained_item : {X Y : Type 0} (f : X → Y) (xs : List X) (ys : List Y) (i : ℕ) (x : X) → map f xs ≡ ys → i < length xs → x ≡ get_or xs i x → Contains ys (f x)
contained_item f xs ys i x e h is = subst (λ z. Contains ys (f z)) (sym is) (contained f xs ys i x e h)

-- at the end of a loop the whole list was seen
pub all_at_end : {X Y : Type 0} (f : X → Y) (P : Y → Type 0) (xs : List X) (ys : List Y) (i : ℕ) → map f xs ≡ ys → length xs ≤ i → All (λ x. P (f x)) (take i xs) → All P ys
all_at_end f P xs ys i e h all = subst (All P) e (All-map P f xs (subst (All (λ x. P (f x))) (take_all i xs h) all))

pub all_at_end_itself : {X : Type 0} (P : X → Type 0) (xs ys : List X) (i : ℕ) → xs ≡ ys → length xs ≤ i → All P (take i xs) → All P ys
all_at_end_itself P xs ys i e h all = subst (All P) e (subst (All P) (take_all i xs h) all)

-- an element of a list that equals another
pub stands_in : {X : Type 0} (xs ys : List X) (i : ℕ) (d : X) → xs ≡ ys → i < length xs → Contains ys (get_or xs i d)
stands_in xs ys i d e h = subst (λ zs. Contains zs (get_or xs i d)) e (Contains-get_or xs i d h)

-- what holds of each element that stands in a list holds of all
pub all_from : {X : Type 0} (P : X → Type 0) (xs : List X) → ((x : X) → Contains xs x → P x) → All P xs
all_from P xs f k d h = f (get_or xs k d) (Contains-get_or xs k d h)
