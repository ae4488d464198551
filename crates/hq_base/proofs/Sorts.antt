-- The stable sort: what it keeps, filters, lists in order, and a sort by one order after a sort by another.
use Rattle.std.proofs.Common.{◌≡◌, ◌∙◌, refl, sym, ap, ℕ, zero, suc, List, [], ◌∷◌, map, filter, take, drop, length, Bool, true, false, cond, not, ◌||◌, is_gt, Ordering, Less, Equal, Greater}
use Rattle.std.specs.Cmp.{IsTotalOrder}
use Rattle.std.specs.List.{list_any}
use Rattle.std.specs.Ordering.{then_cmp, ordering_reverse, ordering_then}
use Rattle.std.proofs.lemmas.Cmp.{upto, then_total}
use Rattle.hq_base.specs.Lists.{Each, put, sort, firsts, Before, Ascends}
use Rattle.hq_base.proofs.Lists.{each_weaken, each_all, each_filter, each_take, each_firsts, map_itself}

-- ---- what a sort keeps, by any comparison

module _ {A : Type 0} (R : A → A → Ordering) where
  pub put_length : (x : A) (xs : List A) → length (put R x xs) ≡ suc (length xs)
  put_length x [] = refl
  put_length x (y ∷ ys) =
      let placed : (b : Bool) → length (cond b (y ∷ put R x ys) (x ∷ (y ∷ ys))) ≡ suc (suc (length ys)) = elim [ true ↦ ap suc (put_length x ys) | false ↦ refl ] in
      placed (is_gt (R x y))

  pub sort_length : (xs : List A) → length (sort R xs) ≡ length xs
  sort_length [] = refl
  sort_length (x ∷ xs) = put_length x (sort R xs) ∙ ap suc (sort_length xs)

  -- a test that some item passes
  pub put_any : (p : A → Bool) (x : A) (xs : List A) → list_any p (put R x xs) ≡ (p x || list_any p xs)
  put_any p x [] = refl
  put_any p x (y ∷ ys) =
      let turn : (a b c : Bool) → (b || (a || c)) ≡ (a || (b || c)) = elim [ true ↦ elim [ true ↦ λ c. refl | false ↦ λ c. refl ] | false ↦ λ b c. refl ] in
      let placed : (b : Bool) → list_any p (cond b (y ∷ put R x ys) (x ∷ (y ∷ ys))) ≡ (p x || (p y || list_any p ys)) =
      elim [ true ↦ rw (put_any p x ys) (turn (p x) (p y) (list_any p ys)) | false ↦ refl ] in
      placed (is_gt (R x y))

  pub sort_any : (p : A → Bool) (xs : List A) → list_any p (sort R xs) ≡ list_any p xs
  sort_any p [] = refl
  sort_any p (x ∷ xs) = put_any p x (sort R xs) ∙ ap (λ b. p x || b) (sort_any p xs)

  -- a fact of each item
  pub each_put : (P : A → Type 0) (x : A) → P x → (xs : List A) → Each P xs → Each P (put R x xs)
  each_put P x px [] h = (px, tt)
  each_put P x px (y ∷ ys) h =
      let placed : (b : Bool) → Each P (cond b (y ∷ put R x ys) (x ∷ (y ∷ ys))) = elim [ true ↦ (h.0, each_put P x px ys h.1) | false ↦ (px, h) ] in
      placed (is_gt (R x y))

  pub each_sort : (P : A → Type 0) (xs : List A) → Each P xs → Each P (sort R xs)
  each_sort P [] h = tt
  each_sort P (x ∷ xs) h = each_put P x h.0 (sort R xs) (each_sort P xs h.1)

-- ---- a sort of images is the image of a sort

module _ {A B : Type 0} (P : A → Type 0) (f : A → B) (R : A → A → Ordering) (S : B → B → Ordering) (agree : (x y : A) → P x → P y → S (f x) (f y) ≡ R x y) where
  pub put_map_on : (x : A) → P x → (ys : List A) → Each P ys → put S (f x) (map f ys) ≡ map f (put R x ys)
  put_map_on x px [] h = refl
  put_map_on x px (y ∷ ys) h =
      let later = put_map_on x px ys h.1 in
      let placed : (b : Bool) → cond b (f y ∷ put S (f x) (map f ys)) (f x ∷ (f y ∷ map f ys)) ≡ map f (cond b (y ∷ put R x ys) (x ∷ (y ∷ ys))) =
      elim [ true ↦ ap (λ zs. f y ∷ zs) later | false ↦ refl ] in
      rw (agree x y px h.0) (placed (is_gt (R x y)))

  pub sort_map_on : (xs : List A) → Each P xs → sort S (map f xs) ≡ map f (sort R xs)
  sort_map_on [] h = refl
  sort_map_on (x ∷ xs) h = rw (sort_map_on xs h.1) (put_map_on x h.0 (sort R xs) (each_sort R P xs h.1))

pub sort_map : {A B : Type 0} (f : A → B) (S : B → B → Ordering) (xs : List A) → sort S (map f xs) ≡ map f (sort (λ x y. S (f x) (f y)) xs)
sort_map {A} f S xs = sort_map_on (λ (x : A). Unit {0}) f (λ x y. S (f x) (f y)) S (λ x y px py. refl) xs (each_all (λ (x : A). Unit {0}) (λ x. tt) xs)

-- comparisons that agree sort alike
pub sort_on : {A : Type 0} (P : A → Type 0) (R S : A → A → Ordering) → ((x y : A) → P x → P y → R x y ≡ S x y) → (xs : List A) → Each P xs → sort R xs ≡ sort S xs
sort_on P R S agree xs h = ap (sort R) (sym (map_itself xs)) ∙ sort_map_on P (λ x. x) S R agree xs h ∙ map_itself (sort S xs)

-- ---- lists in order

module _ {A : Type 0} {R : A → A → Ordering} (o : IsTotalOrder R) where
  -- of two items one does not belong behind the other
  pub turned : (x y : A) → is_gt (R x y) ≡ true → Before R y x
  turned x y h =
      let go : (p : Ordering) → is_gt p ≡ true → is_gt (ordering_reverse p) ≡ false = elim [ Less ↦ λ e. cc | Equal ↦ λ e. cc | Greater ↦ λ e. refl ] in
      rw (o.antisymm y x) (go (R x y) h)

  put_front : (x : A) (ys : List A) → Each (Before R x) ys → put R x ys ≡ x ∷ ys
  put_front x [] h = refl
  put_front x (y ∷ ys) h = rw h.0 refl

  ascends_put : (x : A) (ys : List A) → Ascends R ys → Ascends R (put R x ys)
  ascends_put x [] h = (tt, tt)
  ascends_put x (y ∷ ys) h =
      let placed : (b : Bool) → is_gt (R x y) ≡ b → Ascends R (cond b (y ∷ put R x ys) (x ∷ (y ∷ ys))) =
      elim [
        | true ↦ λ e. (each_put R (Before R y) x (turned x y e) ys h.0, ascends_put x ys h.1)
        | false ↦ λ e. ((e, each_weaken (Before R y) (Before R x) (λ z g. upto o x y z e g) ys h.0), h)
      ] in
      placed (is_gt (R x y)) refl

  -- a sort gives an ascending list
  pub ascends_sort : (xs : List A) → Ascends R (sort R xs)
  ascends_sort [] = tt
  ascends_sort (x ∷ xs) = ascends_put x (sort R xs) (ascends_sort xs)

  -- and leaves one as it is
  pub sort_ascending : (xs : List A) → Ascends R xs → sort R xs ≡ xs
  sort_ascending [] h = refl
  sort_ascending (x ∷ xs) h = rw (sort_ascending xs h.1) (put_front x xs h.0)

  put_filter : (p : A → Bool) (x : A) (ys : List A) → Ascends R ys → filter p (put R x ys) ≡ cond (p x) (put R x (filter p ys)) (filter p ys)
  put_filter p x [] h = refl
  put_filter p x (y ∷ ys) h =
      let later = put_filter p x ys h.1 in
      let placed : (b : Bool) → is_gt (R x y) ≡ b → filter p (cond b (y ∷ put R x ys) (x ∷ (y ∷ ys))) ≡ cond (p x) (put R x (filter p (y ∷ ys))) (filter p (y ∷ ys)) =
      elim [
        | true ↦ λ e.
            let at : (c d : Bool)
            → cond d (y ∷ cond c (put R x (filter p ys)) (filter p ys)) (cond c (put R x (filter p ys)) (filter p ys))
            ≡ cond c (put R x (cond d (y ∷ filter p ys) (filter p ys))) (cond d (y ∷ filter p ys) (filter p ys)) =
            elim [ true ↦ elim [ true ↦ rw e refl | false ↦ refl ] | false ↦ elim [ true ↦ refl | false ↦ refl ] ] in
            rw later (at (p x) (p y))
        | false ↦ λ e.
            let front = put_front x (filter p (y ∷ ys)) (each_filter (Before R x) p (y ∷ ys) (e, each_weaken (Before R y) (Before R x) (λ z g. upto o x y z e g) ys h.0)) in
            rw front refl
      ] in
      placed (is_gt (R x y)) refl

  -- a filter and a sort go in either order
  pub sort_filter : (p : A → Bool) (xs : List A) → filter p (sort R xs) ≡ sort R (filter p xs)
  sort_filter p [] = refl
  sort_filter p (x ∷ xs) =
      let placed : (b : Bool) → cond b (put R x (sort R (filter p xs))) (sort R (filter p xs)) ≡ sort R (cond b (x ∷ filter p xs) (filter p xs)) = elim [ true ↦ refl | false ↦ refl ] in
      put_filter p x (sort R xs) (ascends_sort xs) ∙ rw (sort_filter p xs) (placed (p x))

  -- two items that stand in a strict order may be put in either order
  pub commute : (x y : A) → Before R x y → is_gt (R y x) ≡ true → (zs : List A) → put R y (put R x zs) ≡ put R x (put R y zs)
  commute x y le gt [] = rw (gt, le) refl
  commute x y le gt (z ∷ zs) =
      let later = commute x y le gt zs in
      let placed : (b c : Bool) → is_gt (R x z) ≡ b → is_gt (R y z) ≡ c → put R y (cond b (z ∷ put R x zs) (x ∷ (z ∷ zs))) ≡ put R x (cond c (z ∷ put R y zs) (y ∷ (z ∷ zs))) =
      elim [
        | true ↦ elim [ true ↦ λ e f. rw (e, f) (ap (λ us. z ∷ us) later) | false ↦ λ e f. let g = upto o x y z le f in cc ]
        | false ↦ elim [ true ↦ λ e f. rw (gt, f) (rw e refl) | false ↦ λ e f. rw (gt, le) (rw f refl) ]
      ] in
      placed (is_gt (R x z)) (is_gt (R y z)) refl refl

pub ascends_take : {A : Type 0} (R : A → A → Ordering) (n : ℕ) (xs : List A) → Ascends R xs → Ascends R (take n xs)
ascends_take R zero xs h = tt
ascends_take R (suc n) [] h = tt
ascends_take R (suc n) (x ∷ xs) h = (each_take (Before R x) n xs h.0, ascends_take R n xs h.1)

pub ascends_drop : {A : Type 0} (R : A → A → Ordering) (n : ℕ) (xs : List A) → Ascends R xs → Ascends R (drop n xs)
ascends_drop R zero xs h = h
ascends_drop R (suc n) [] h = tt
ascends_drop R (suc n) (x ∷ xs) h = ascends_drop R n xs h.1

pub ascends_filter : {A : Type 0} (R : A → A → Ordering) (p : A → Bool) (xs : List A) → Ascends R xs → Ascends R (filter p xs)
ascends_filter R p [] h = tt
ascends_filter R p (x ∷ xs) h =
    let later = ascends_filter R p xs h.1 in
    let placed : (b : Bool) → Ascends R (cond b (x ∷ filter p xs) (filter p xs)) = elim [ true ↦ (each_filter (Before R x) p xs h.0, later) | false ↦ later ] in
    placed (p x)

pub ascends_firsts : {A : Type 0} (R : A → A → Ordering) (E : A → A → Bool) (xs : List A) → Ascends R xs → Ascends R (firsts E xs)
ascends_firsts R E [] h = tt
ascends_firsts R E (x ∷ xs) h =
    (each_filter (Before R x) (λ y. not (E x y)) (firsts E xs) (each_firsts (Before R x) E xs h.0), ascends_filter R (λ y. not (E x y)) (firsts E xs) (ascends_firsts R E xs h.1))

module _ {A : Type 0} {S R : A → A → Ordering} (s : IsTotalOrder S) (r : IsTotalOrder R) where
  put_alike : (x : A) (zs : List A) → Each (Before R x) zs → put S x zs ≡ put (then_cmp S R) x zs
  put_alike x [] h = refl
  put_alike x (z ∷ zs) h =
      let at : (p q : Ordering) → is_gt q ≡ false → is_gt p ≡ is_gt (ordering_then p q) = elim [ Less ↦ λ q e. refl | Equal ↦ λ q e. sym e | Greater ↦ λ q e. refl ] in
      rw (← at (S x z) (R x z) h.0, put_alike x zs h.1) refl

  swapped : (x y : A) → is_gt (R x y) ≡ true → (zs : List A) → put (then_cmp S R) y (put (then_cmp S R) x zs) ≡ put (then_cmp S R) x (put (then_cmp S R) y zs)
  swapped x y e zs =
      let less : (p q : Ordering) → is_gt q ≡ true → is_gt (ordering_then p q) ≡ false → is_gt (ordering_reverse (ordering_then p q)) ≡ true =
      elim [ Less ↦ λ q e f. refl | Equal ↦ λ q e f. cc | Greater ↦ λ q e f. cc ] in
      let o = then_total s r in
      let placed : (b : Bool) → is_gt (then_cmp S R x y) ≡ b → put (then_cmp S R) y (put (then_cmp S R) x zs) ≡ put (then_cmp S R) x (put (then_cmp S R) y zs) =
      elim [
        | true ↦ λ f. sym (commute o y x (turned o x y f) f zs)
        | false ↦ λ f. commute o x y f (rw (o.antisymm y x) (less (S x y) (R x y) e f)) zs
      ] in
      placed (is_gt (then_cmp S R x y)) refl

  put_sort : (x : A) (ys : List A) → Ascends R ys → sort S (put R x ys) ≡ put (then_cmp S R) x (sort S ys)
  put_sort x [] h = refl
  put_sort x (y ∷ ys) h =
      let placed : (b : Bool) → is_gt (R x y) ≡ b → sort S (cond b (y ∷ put R x ys) (x ∷ (y ∷ ys))) ≡ put (then_cmp S R) x (sort S (y ∷ ys)) =
      elim [
        | true ↦ λ e.
            let behind = each_sort S (Before R y) ys h.0 in
            let all = each_put (then_cmp S R) (Before R y) x (turned r x y e) (sort S ys) behind in
            rw (put_sort x ys h.1) (put_alike y _ all ∙ swapped x y e (sort S ys) ∙ ap (put (then_cmp S R) x) (sym (put_alike y (sort S ys) behind)))
        | false ↦ λ e. put_alike x (sort S (y ∷ ys)) (each_sort S (Before R x) (y ∷ ys) (e, each_weaken (Before R y) (Before R x) (λ z g. upto r x y z e g) ys h.0))
      ] in
      placed (is_gt (R x y)) refl

  -- a stable sort by S after one by R sorts by S and then by R
  pub sort_sort : (xs : List A) → sort S (sort R xs) ≡ sort (then_cmp S R) xs
  sort_sort [] = refl
  sort_sort (x ∷ xs) = put_sort x (sort R xs) (ascends_sort r xs) ∙ ap (put (then_cmp S R) x) (sort_sort xs)
