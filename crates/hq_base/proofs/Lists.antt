-- Maps, filters and first items of lists, also where a fact of each item is needed.
use Rattle.std.proofs.Common.{◌≡◌, ◌∙◌, refl, ap, ℕ, zero, suc, List, [], ◌∷◌, map, filter, flat_map, take, drop, Bool, true, false, cond, not, ◌&&◌, ◌||◌}
use Rattle.std.specs.List.{list_any}
use Rattle.std.proofs.lemmas.Bool.{and_parts, or_parts}
use Rattle.std.proofs.lemmas.Map.Views.{any-filter_same}
use Rattle.hq_base.specs.Lists.{Each, firsts, all_differ}

-- ---- a fact of each item

pub each_weaken : {A : Type 0} (P Q : A → Type 0) → ((x : A) → P x → Q x) → (xs : List A) → Each P xs → Each Q xs
each_weaken P Q step [] h = tt
each_weaken P Q step (x ∷ xs) h = (step x h.0, each_weaken P Q step xs h.1)

pub each_all : {A : Type 0} (P : A → Type 0) → ((x : A) → P x) → (xs : List A) → Each P xs
each_all P all [] = tt
each_all P all (x ∷ xs) = (all x, each_all P all xs)

module _ {A : Type 0} (P : A → Type 0) where
  pub each_filter : (p : A → Bool) (xs : List A) → Each P xs → Each P (filter p xs)
  each_filter p [] h = tt
  each_filter p (x ∷ xs) h =
      let kept : (b : Bool) → Each P (cond b (x ∷ filter p xs) (filter p xs)) = elim [ true ↦ (h.0, each_filter p xs h.1) | false ↦ each_filter p xs h.1 ] in
      kept (p x)

  pub each_take : (n : ℕ) (xs : List A) → Each P xs → Each P (take n xs)
  each_take zero xs h = tt
  each_take (suc n) [] h = tt
  each_take (suc n) (x ∷ xs) h = (h.0, each_take n xs h.1)

  pub each_drop : (n : ℕ) (xs : List A) → Each P xs → Each P (drop n xs)
  each_drop zero xs h = h
  each_drop (suc n) [] h = tt
  each_drop (suc n) (x ∷ xs) h = each_drop n xs h.1

  pub each_firsts : (same : A → A → Bool) (xs : List A) → Each P xs → Each P (firsts same xs)
  each_firsts same [] h = tt
  each_firsts same (x ∷ xs) h = (h.0, each_filter (λ y. not (same x y)) (firsts same xs) (each_firsts same xs h.1))

  -- tests that agree on each item leave the same items
  pub filter_on : (p q : A → Bool) → ((x : A) → P x → p x ≡ q x) → (xs : List A) → Each P xs → filter p xs ≡ filter q xs
  filter_on p q agree [] h = refl
  filter_on p q agree (x ∷ xs) h = rw (agree x h.0, filter_on p q agree xs h.1) refl

-- each item that a filter leaves passes its test
pub each_passes : {A : Type 0} (p : A → Bool) (xs : List A) → Each (λ x. p x ≡ true) (filter p xs)
each_passes p [] = tt
each_passes p (x ∷ xs) =
    let later = each_passes p xs in
    let kept : (b : Bool) → p x ≡ b → Each (λ y. p y ≡ true) (cond b (x ∷ filter p xs) (filter p xs)) = elim [ true ↦ λ e. (e, later) | false ↦ λ e. later ] in
    kept (p x) refl

module _ {A B : Type 0} (P : A → Type 0) where
  pub map_on : (f g : A → B) → ((x : A) → P x → f x ≡ g x) → (xs : List A) → Each P xs → map f xs ≡ map g xs
  map_on f g agree [] h = refl
  map_on f g agree (x ∷ xs) h = let first = agree x h.0 in let later = map_on f g agree xs h.1 in cc

  pub flat_map_on : (f : A → List B) (g : A → B) → ((x : A) → P x → f x ≡ g x ∷ []) → (xs : List A) → Each P xs → flat_map f xs ≡ map g xs
  flat_map_on f g one [] h = refl
  flat_map_on f g one (x ∷ xs) h = rw (one x h.0) (ap (λ ys. g x ∷ ys) (flat_map_on f g one xs h.1))

-- ---- maps and filters

pub map_itself : {A : Type 0} (xs : List A) → map (λ x. x) xs ≡ xs
map_itself [] = refl
map_itself (x ∷ xs) = ap (λ ys. x ∷ ys) (map_itself xs)

pub map_map : {A B C : Type 0} (g : B → C) (f : A → B) (xs : List A) → map g (map f xs) ≡ map (λ x. g (f x)) xs
map_map g f [] = refl
map_map g f (x ∷ xs) = ap (λ ys. g (f x) ∷ ys) (map_map g f xs)

pub filter_map_of : {A B : Type 0} (p : B → Bool) (f : A → B) (xs : List A) → filter p (map f xs) ≡ map f (filter (λ x. p (f x)) xs)
filter_map_of p f [] = refl
filter_map_of p f (x ∷ xs) =
    let later = filter_map_of p f xs in
    let kept : (b : Bool) → cond b (f x ∷ filter p (map f xs)) (filter p (map f xs)) ≡ map f (cond b (x ∷ filter (λ y. p (f y)) xs) (filter (λ y. p (f y)) xs)) =
    elim [ true ↦ ap (λ ys. f x ∷ ys) later | false ↦ later ] in
    kept (p (f x))

pub filter_filter : {A : Type 0} (p q : A → Bool) (xs : List A) → filter p (filter q xs) ≡ filter (λ x. q x && p x) xs
filter_filter p q [] = refl
filter_filter p q (x ∷ xs) =
    let later = filter_filter p q xs in
    let kept : (b : Bool) → filter p (cond b (x ∷ filter q xs) (filter q xs)) ≡ cond (b && p x) (x ∷ filter (λ y. q y && p y) xs) (filter (λ y. q y && p y) xs) =
    elim [ true ↦ rw later refl | false ↦ later ] in
    kept (q x)

pub any_map_of : {A B : Type 0} (p : B → Bool) (f : A → B) (xs : List A) → list_any p (map f xs) ≡ list_any (λ x. p (f x)) xs
any_map_of p f [] = refl
any_map_of p f (x ∷ xs) = ap (λ b. p (f x) || b) (any_map_of p f xs)

-- two filters go in either order
pub filter_turn : {A : Type 0} (p q : A → Bool) (xs : List A) → filter p (filter q xs) ≡ filter q (filter p xs)
filter_turn p q [] = refl
filter_turn p q (x ∷ xs) =
    let later = filter_turn p q xs in
    let kept : (b c : Bool) → p x ≡ b → q x ≡ c → filter p (cond c (x ∷ filter q xs) (filter q xs)) ≡ filter q (cond b (x ∷ filter p xs) (filter p xs)) =
    elim [
      | true ↦ elim [ true ↦ λ e f. rw (e, f, later) refl | false ↦ λ e f. rw (f, later) refl ]
      | false ↦ elim [ true ↦ λ e f. rw (e, later) refl | false ↦ λ e f. later ]
    ] in
    kept (p x) (q x) refl refl

-- a filter that each item passes leaves the list
pub filter_all : {A : Type 0} (p : A → Bool) (xs : List A) → Each (λ x. p x ≡ true) xs → filter p xs ≡ xs
filter_all p [] h = refl
filter_all p (x ∷ xs) h = rw (h.0, filter_all p xs h.1) refl

not_true : (b : Bool) → not b ≡ true → b ≡ false
not_true true h = cc
not_true false h = refl

each_fails : {A : Type 0} (p : A → Bool) (xs : List A) → list_any p xs ≡ false → Each (λ x. not (p x) ≡ true) xs
each_fails p [] h = tt
each_fails p (x ∷ xs) h = let parts = or_parts (p x) (list_any p xs) h in (ap not parts.0, each_fails p xs parts.1)

-- no item that a filter leaves passes a test which the filter asks to fail
pub none_left : {A : Type 0} (p : A → Bool) (xs : List A) → list_any p (filter (λ x. not (p x)) xs) ≡ false
none_left p [] = refl
none_left p (x ∷ xs) =
    let later = none_left p xs in
    let kept : (b : Bool) → p x ≡ b → list_any p (cond (not b) (x ∷ filter (λ y. not (p y)) xs) (filter (λ y. not (p y)) xs)) ≡ false =
    elim [ true ↦ λ e. later | false ↦ λ e. rw e later ] in
    kept (p x) refl

-- what no item passes, no item that a filter leaves passes
pub none_filtered : {A : Type 0} (p q : A → Bool) (xs : List A) → list_any p xs ≡ false → list_any p (filter q xs) ≡ false
none_filtered p q [] h = refl
none_filtered p q (x ∷ xs) h =
    let parts = or_parts (p x) (list_any p xs) h in
    let later = none_filtered p q xs parts.1 in
    let kept : (b : Bool) → list_any p (cond b (x ∷ filter q xs) (filter q xs)) ≡ false = elim [ true ↦ rw parts.0 later | false ↦ later ] in
    kept (q x)

-- ---- the first of each group

-- items that all differ still differ after a filter
pub all_differ_filter : {A : Type 0} (same : A → A → Bool) (p : A → Bool) (xs : List A) → all_differ same xs ≡ true → all_differ same (filter p xs) ≡ true
all_differ_filter same p [] h = refl
all_differ_filter same p (x ∷ xs) h =
    let parts = and_parts (not (list_any (same x) xs)) (all_differ same xs) h in
    let later = all_differ_filter same p xs parts.1 in
    let none = none_filtered (same x) p xs (not_true (list_any (same x) xs) parts.0) in
    let kept : (b : Bool) → all_differ same (cond b (x ∷ filter p xs) (filter p xs)) ≡ true = elim [ true ↦ rw none later | false ↦ later ] in
    kept (p x)

-- the first items of the groups differ
pub firsts_differ : {A : Type 0} (same : A → A → Bool) (xs : List A) → all_differ same (firsts same xs) ≡ true
firsts_differ same [] = refl
firsts_differ same (x ∷ xs) =
    rw (none_left (same x) (firsts same xs)) (all_differ_filter same (λ y. not (same x y)) (firsts same xs) (firsts_differ same xs))

-- and items that differ are the first ones of their groups
pub firsts_all : {A : Type 0} (same : A → A → Bool) (xs : List A) → all_differ same xs ≡ true → firsts same xs ≡ xs
firsts_all same [] h = refl
firsts_all same (x ∷ xs) h =
    let parts = and_parts (not (list_any (same x) xs)) (all_differ same xs) h in
    ap (λ ys. x ∷ ys) (ap (filter (λ y. not (same x y))) (firsts_all same xs parts.1) ∙ filter_all (λ y. not (same x y)) xs (each_fails (same x) xs (not_true (list_any (same x) xs) parts.0)))

-- an item of one group and one of another differ
apart : {A : Type 0} (same : A → A → Bool) (p : A → Bool) → ((x y : A) → same x y ≡ true → p x ≡ p y) → (x y : A) → p x ≡ false → p y ≡ true → not (same x y) ≡ true
apart same p whole x y out in' =
    let differ : (b : Bool) → same x y ≡ b → not b ≡ true = elim [ true ↦ λ e. let equal = whole x y e in cc | false ↦ λ e. refl ] in
    differ (same x y) refl

-- a test that a group passes as a whole finds an item where it finds a first one
pub firsts_any : {A : Type 0} (same : A → A → Bool) (p : A → Bool) → ((x y : A) → same x y ≡ true → p x ≡ p y) → (xs : List A) → list_any p (firsts same xs) ≡ list_any p xs
firsts_any same p whole [] = refl
firsts_any {A} same p whole (x ∷ xs) =
    let other : A → Bool = λ y. not (same x y) in
    let later = firsts_any same p whole xs in
    let found : (b : Bool) → p x ≡ b → (b || list_any p (filter other (firsts same xs))) ≡ (b || list_any p xs) =
    elim [
      | true ↦ λ e. refl
      | false ↦ λ e. any-filter_same p other true (λ y h. apart same p whole x y e h) (firsts same xs) ∙ later
    ] in
    found (p x) refl

-- the first images are the images of the first items
pub firsts_map_on : {A B : Type 0} (P : A → Type 0) (f : A → B) (same : A → A → Bool) (alike : B → B → Bool) → ((x y : A) → P x → P y → alike (f x) (f y) ≡ same x y) → (xs : List A) → Each P xs
    → firsts alike (map f xs) ≡ map f (firsts same xs)
firsts_map_on P f same alike agree [] h = refl
firsts_map_on P f same alike agree (x ∷ xs) h =
    ap (λ ys. f x ∷ ys)
    (ap (filter (λ y. not (alike (f x) y))) (firsts_map_on P f same alike agree xs h.1)
    ∙ filter_map_of (λ y. not (alike (f x) y)) f (firsts same xs)
    ∙ ap (map f) (filter_on P (λ y. not (alike (f x) (f y))) (λ y. not (same x y)) (λ y py. ap not (agree x y h.0 py)) (firsts same xs) (each_firsts P same xs h.1)))

-- a filter whose test a group passes as a whole keeps the first items of the groups that pass
pub firsts_filter : {A : Type 0} (same : A → A → Bool) (p : A → Bool) → ((x y : A) → same x y ≡ true → p x ≡ p y) → (xs : List A) → filter p (firsts same xs) ≡ firsts same (filter p xs)
firsts_filter same p whole [] = refl
firsts_filter {A} same p whole (x ∷ xs) =
    let other : A → Bool = λ y. not (same x y) in
    let later = filter_turn p other (firsts same xs) ∙ ap (filter other) (firsts_filter same p whole xs) in
    let kept : (b : Bool) → p x ≡ b → cond b (x ∷ filter p (filter other (firsts same xs))) (filter p (filter other (firsts same xs))) ≡ firsts same (cond b (x ∷ filter p xs) (filter p xs)) =
    elim [
      | true ↦ λ e. ap (λ ys. x ∷ ys) later
      | false ↦ λ e.
          let passes = each_firsts (λ y. p y ≡ true) same (filter p xs) (each_passes p xs) in
          later ∙ filter_all other (firsts same (filter p xs)) (each_weaken (λ y. p y ≡ true) (λ y. other y ≡ true) (λ y h. apart same p whole x y e h) (firsts same (filter p xs)) passes)
    ] in
    kept (p x) refl
