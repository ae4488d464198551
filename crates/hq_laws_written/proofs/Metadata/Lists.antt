-- Lists: items that are read one after another, look-ups, and items with their places.
use Rattle.std.proofs.Common.{◌≡◌, ◌∙◌, ℕ, zero, suc, ◌+◌, nat_lt, ◌&&◌, ◌||◌, List, [], ◌∷◌, ◌++◌, length, map, filter, Bool, true, false, cond, Some, None, Result, Ok, slice_get, slice_index_or, zip, is_some, find, bytes_eq, refl, sym, ap, subst, arith, append_assoc, append-nil, lt-ltb, ltb-true, is_gt}
use Rattle.std.specs.List.{list_any}
use Rattle.std.specs.Map.{lookup}
use Rattle.std.specs.Cmp.Lexicographic.{bytes_decides}
use Rattle.std.specs.declared.cmp.Ordering.{Ordering}
use Rattle.std.proofs.lemmas.Bool.{and_parts, or_parts}
use Rattle.hq_base.specs.Due.{and_then}
use Rattle.hq_base.specs.Lists.{Each, put, sort, all_differ}
use Rattle.hq_base.specs.Path.{item_path}
use Rattle.hq_base.proofs.Sorts.{put_any, sort_any}
use Rattle.hq_model.specs.Schema.{numbered}
use Rattle.hq_load_meta_tables.specs.Each.{each, each_after}
use Rattle.hq_laws_written.proofs.Catalog.Lists.{none_before, not_true}

-- ---- items that are read

-- a fact of each item behind what the earlier ones gave
abbrev pub EachAfter : {A B : Type 0} → (P : List B → A → Type 0) → (gives : A → B) → List B → List A → Type 0
EachAfter P gives before [] = Unit {0}
EachAfter P gives before (x ∷ xs) = P before x × EachAfter P gives (before ++ gives x ∷ []) xs

-- items that are each read as what they were written from
pub after_back : {A B C E : Type 0} (read : List C → List ℕ → B → Result C E) (write : A → B) (gives : A → C) (path : List ℕ) (n : ℕ) (before : List C) (xs : List A)
    → EachAfter (λ done x. (p : List ℕ) → read done p (write x) ≡ Ok (gives x)) gives before xs → each_after read path n before (map write xs) ≡ Ok (before ++ map gives xs)
after_back read write gives path n before [] h = ap Ok (sym (append-nil before))
after_back read write gives path n before (x ∷ xs) h =
    ap (and_then (λ y. each_after read path (n + 1) (before ++ y ∷ []) (map write xs))) (h.0 (item_path path n))
    ∙ after_back read write gives path (n + 1) (before ++ gives x ∷ []) xs h.1
    ∙ ap Ok (append_assoc before (gives x ∷ []) (map gives xs))

-- where what came before is not looked at
pub after_each : {A B : Type 0} (P : A → Type 0) (gives : A → B) (before : List B) (xs : List A) → Each P xs → EachAfter (λ done. P) gives before xs
after_each P gives before [] h = tt
after_each P gives before (x ∷ xs) h = (h.0, after_each P gives (before ++ gives x ∷ []) xs h.1)

pub each_back : {A B C E : Type 0} (read : List ℕ → B → Result C E) (write : A → B) (gives : A → C) (path : List ℕ) (xs : List A)
    → Each (λ x. (p : List ℕ) → read p (write x) ≡ Ok (gives x)) xs → each read path (map write xs) ≡ Ok (map gives xs)
each_back read write gives path xs h = after_back (λ before. read) write gives path 0 [] xs (after_each (λ x. (p : List ℕ) → read p (write x) ≡ Ok (gives x)) gives [] xs h)

-- each item differs from the earlier ones
pub differ_after : {A B : Type 0} (same : B → B → Bool) (gives : A → B) (before : List B) (xs : List A) → all_differ same (before ++ map gives xs) ≡ true
    → EachAfter (λ done x. list_any (λ y. same y (gives x)) done ≡ false) gives before xs
differ_after same gives before [] h = tt
differ_after same gives before (x ∷ xs) h =
    (none_before same before (map gives xs) (gives x) h, differ_after same gives (before ++ gives x ∷ []) xs (rw (append_assoc before (gives x ∷ []) (map gives xs)) h))

-- two facts
pub after_both : {A B : Type 0} (P Q R : List B → A → Type 0) (gives : A → B) → ((done : List B) (x : A) → P done x → Q done x → R done x) → (before : List B) (xs : List A)
    → EachAfter P gives before xs → EachAfter Q gives before xs → EachAfter R gives before xs
after_both P Q R gives step before [] h k = tt
after_both P Q R gives step before (x ∷ xs) h k = (step before x h.0 k.0, after_both P Q R gives step (before ++ gives x ∷ []) xs h.1 k.1)

pub each_both : {A : Type 0} (P Q R : A → Type 0) → ((x : A) → P x → Q x → R x) → (xs : List A) → Each P xs → Each Q xs → Each R xs
each_both P Q R step [] h k = tt
each_both P Q R step (x ∷ xs) h k = (step x h.0 k.0, each_both P Q R step xs h.1 k.1)

pub each_map : {A B : Type 0} (P : B → Type 0) (f : A → B) (xs : List A) → Each (λ x. P (f x)) xs → Each P (map f xs)
each_map P f [] h = tt
each_map P f (x ∷ xs) h = (h.0, each_map P f xs h.1)

-- ---- maps

-- each item beside another image of it
pub zip_maps : {A B C : Type 0} (f : A → B) (g : A → C) (xs : List A) → zip (map f xs) (map g xs) ≡ map (λ x. (f x, g x)) xs
zip_maps f g [] = refl
zip_maps f g (x ∷ xs) = ap (λ l. (f x, g x) ∷ l) (zip_maps f g xs)

-- images by place
pub map_places : {A B : Type 0} (f : A → B) (d : B) (xs : List A) (ys : List B) → length ys ≡ length xs → ((i : ℕ) (x : A) → slice_get xs i ≡ Some x → f x ≡ slice_index_or ys i d) → map f xs ≡ ys
map_places f d [] [] same h = refl
map_places f d [] (y ∷ ys) same h = absurd (omega (arith, same))
map_places f d (x ∷ xs) [] same h = absurd (omega (arith, same))
map_places f d (x ∷ xs) (y ∷ ys) same h = rw (h 0 x refl, map_places f d xs ys (omega (arith, same)) (λ i z e. h (suc i) z e)) refl

pub below : {A : Type 0} (xs : List A) (k : ℕ) → nat_lt k (length xs) ≡ true → (x : A) × (slice_get xs k ≡ Some x)
below [] k h = let lt = ltb-true k 0 h in absurd (omega (arith, lt))
below (x ∷ xs) zero h = (x, refl)
below (x ∷ xs) (suc k) h = below xs k (lt-ltb k (length xs) (omega (arith, ltb-true (suc k) (suc (length xs)) h)))

-- ---- items with their places

-- a fact of each place
pub numbered_each : {A : Type 0} (P : ℕ → Type 0) (k : ℕ) (xs : List A) → ((i : ℕ) (x : A) → slice_get xs i ≡ Some x → P (k + i)) → Each P (numbered (λ place c. place) k xs)
numbered_each P k [] h = tt
numbered_each P k (x ∷ xs) h =
    let first : k + 0 ≡ k = omega arith in
    (subst P first (h 0 x refl), numbered_each P (suc k) xs (λ i y e. let next : k + suc i ≡ suc k + i = omega arith in subst P next (h (suc i) y e)))

pub at_numbered : {A : Type 0} (P : ℕ → Type 0) (k : ℕ) (xs : List A) → Each P (numbered (λ place c. place) k xs) → (i : ℕ) (x : A) → slice_get xs i ≡ Some x → P (k + i)
at_numbered P k [] h i x e = absurd cc
at_numbered P k (y ∷ ys) h zero x e = let first : k ≡ k + 0 = omega arith in subst P first h.0
at_numbered P k (y ∷ ys) h (suc i) x e = let next : suc k + i ≡ k + suc i = omega arith in subst P next (at_numbered P (suc k) ys h.1 i x e)

or_right : (a b : Bool) → b ≡ true → (a || b) ≡ true
or_right true b h = refl
or_right false b h = h

or_left : (a b : Bool) → a ≡ true → (a || b) ≡ true
or_left true b h = refl
or_left false b h = cc

-- a test that the place of an item passes
pub numbered_any : {A : Type 0} (p : ℕ → Bool) (k : ℕ) (xs : List A) (i : ℕ) (x : A) → slice_get xs i ≡ Some x → p (k + i) ≡ true → list_any p (numbered (λ place c. place) k xs) ≡ true
numbered_any p k [] i x e h = absurd cc
numbered_any p k (y ∷ ys) zero x e h = let first : k + 0 ≡ k = omega arith in or_left (p k) _ (ap p (sym first) ∙ h)
numbered_any p k (y ∷ ys) (suc i) x e h = let next : k + suc i ≡ suc k + i = omega arith in or_right (p k) _ (numbered_any p (suc k) ys i x e (ap p (sym next) ∙ h))

-- ---- searches

pub any_alike : {A : Type 0} (p q : A → Bool) (xs : List A) → Each (λ x. p x ≡ q x) xs → list_any p xs ≡ list_any q xs
any_alike p q [] h = refl
any_alike p q (x ∷ xs) h = rw (h.0, any_alike p q xs h.1) refl

pub any_none : {A : Type 0} (p : A → Bool) (xs : List A) → Each (λ x. p x ≡ false) xs → list_any p xs ≡ false
any_none p [] h = refl
any_none p (x ∷ xs) h = rw h.0 (any_none p xs h.1)

pub any_filter : {A : Type 0} (p q : A → Bool) (xs : List A) → list_any p (filter q xs) ≡ list_any (λ x. q x && p x) xs
any_filter p q [] = refl
any_filter p q (x ∷ xs) =
    let later = any_filter p q xs in
    let go : (b : Bool) → list_any p (cond b (x ∷ filter q xs) (filter q xs)) ≡ ((b && p x) || list_any (λ y. q y && p y) xs) = elim [ true ↦ ap (λ r. p x || r) later | false ↦ later ] in
    go (q x)

pub some_map : {A B : Type 0} (p : B → Bool) (f : A → B) (xs : List A) → is_some (find p (map f xs)) ≡ is_some (find (λ x. p (f x)) xs)
some_map p f [] = refl
some_map p f (x ∷ xs) =
    let later = some_map p f xs in
    let go : (b : Bool) → is_some (cond b (Some (f x)) (find p (map f xs))) ≡ is_some (cond b (Some x) (find (λ y. p (f y)) xs)) = elim [ true ↦ refl | false ↦ later ] in
    go (p (f x))

-- a look-up among members whose values follow from their names
pub lookup_by : {V : Type 0} (f : List ℕ → V) (name : List ℕ) (ms : List (List ℕ × V)) → Each (λ m. m.1 ≡ f m.0) ms
    → lookup (λ n. bytes_eq n name) ms ≡ cond (list_any (λ m. bytes_eq m.0 name) ms) (Some (f name)) None
lookup_by f name [] h = refl
lookup_by f name (m ∷ ms) h =
    let later = lookup_by f name ms h.1 in
    let go : (b : Bool) → bytes_eq m.0 name ≡ b → cond b (Some m.1) (lookup (λ n. bytes_eq n name) ms) ≡ cond (b || list_any (λ n. bytes_eq n.0 name) ms) (Some (f name)) None = elim [
      | true ↦ λ e. ap Some (h.0 ∙ ap f ((bytes_decides m.0 name).0 e))
      | false ↦ λ e. later
    ] in
    go (bytes_eq m.0 name) refl

-- ---- sorts of items that differ

module _ {A : Type 0} (R : A → A → Ordering) (same : A → A → Bool) (even : (x y : A) → same x y ≡ false → same y x ≡ false) where
  put_differ : (x : A) (ys : List A) → list_any (same x) ys ≡ false → all_differ same ys ≡ true → all_differ same (put R x ys) ≡ true
  put_differ x [] none h = refl
  put_differ x (y ∷ ys) none h =
      let p = and_parts _ _ h in
      let q = or_parts (same x y) _ none in
      let later = put_differ x ys q.1 p.1 in
      let behind : list_any (same y) (put R x ys) ≡ false = put_any R (same y) x ys ∙ rw (even x y q.0) (not_true _ p.0) in
      let go : (b : Bool) → all_differ same (cond b (y ∷ put R x ys) (x ∷ (y ∷ ys))) ≡ true = elim [ true ↦ rw behind later | false ↦ rw none h ] in
      go (is_gt (R x y))

  pub sort_differ : (xs : List A) → all_differ same xs ≡ true → all_differ same (sort R xs) ≡ true
  sort_differ [] h = refl
  sort_differ (x ∷ xs) h =
      let p = and_parts _ _ h in
      put_differ x (sort R xs) (sort_any R (same x) xs ∙ not_true _ p.0) (sort_differ xs p.1)

-- the first of a list pass no test that none passes
front_none : {A : Type 0} (q : A → Bool) (xs ys : List A) → list_any q (xs ++ ys) ≡ false → list_any q xs ≡ false
front_none q [] ys h = refl
front_none q (x ∷ xs) ys h = let p = or_parts (q x) _ h in rw p.0 (front_none q xs ys p.1)

-- the first of a list differ where all do
pub front_differ : {A : Type 0} (same : A → A → Bool) (xs ys : List A) → all_differ same (xs ++ ys) ≡ true → all_differ same xs ≡ true
front_differ same [] ys h = refl
front_differ same (x ∷ xs) ys h =
    let p = and_parts _ _ h in
    rw (front_none (same x) xs ys (not_true _ p.0)) (front_differ same xs ys p.1)
