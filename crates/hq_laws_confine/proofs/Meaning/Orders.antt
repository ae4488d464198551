-- Items that differ by an order: they may be put in either order, and a sorted list of them rises.
use Rattle.std.proofs.Common.{◌≡◌, List, [], ◌∷◌, ◌++◌, filter, flat_map, Bool, true, false, cond, refl, sym, ap, ◌∙◌, is_gt, Ordering, Less, Equal, Greater}
use Rattle.std.specs.Cmp.{IsTotalOrder}
use Rattle.std.specs.Ordering.{is_eq, ordering_reverse, ordering_then}
use Rattle.hq_base.specs.Lists.{Each, put, sort, Before, Ascends}
use Rattle.hq_base.proofs.Lists.{each_filter}
use Rattle.hq_base.proofs.Sorts.{each_put, each_sort, turned, ascends_sort, commute}

abbrev pub Diff : {A : Type 0} → (A → A → Ordering) → A → A → Type 0
Diff R x y = is_eq (R x y) ≡ false

-- no two items are equal
abbrev pub Apart : {A : Type 0} → (A → A → Ordering) → List A → Type 0
Apart R [] = Unit {0}
Apart R (x ∷ xs) = Each (Diff R x) xs × Apart R xs

-- each item is less than all later ones
abbrev pub Rising : {A : Type 0} → (A → A → Ordering) → List A → Type 0
Rising R [] = Unit {0}
Rising R (x ∷ xs) = Each (λ y. R x y ≡ Less) xs × Rising R xs

pub none_total : {A : Type 0} → IsTotalOrder {K = A} (λ x y. Equal)
none_total = record { antisymm = λ x y. refl; trans = λ x y z h g. h; congr = λ x y z h. refl }

pub then_left : (p q : Ordering) → is_eq p ≡ false → is_eq (ordering_then p q) ≡ false
then_left Less q h = refl
then_left Equal q h = cc
then_left Greater q h = refl

pub then_right : (p q : Ordering) → is_eq q ≡ false → is_eq (ordering_then p q) ≡ false
then_right Less q h = refl
then_right Equal q h = h
then_right Greater q h = refl

pub then_first : (p q : Ordering) → ordering_then p q ≡ Equal → p ≡ Equal
then_first Less q h = h
then_first Equal q h = refl
then_first Greater q h = h

pub then_second : (p q : Ordering) → ordering_then p q ≡ Equal → q ≡ Equal
then_second Less q h = cc
then_second Equal q h = h
then_second Greater q h = cc

pub then_assoc : (p q r : Ordering) → ordering_then p (ordering_then q r) ≡ ordering_then (ordering_then p q) r
then_assoc Less q r = refl
then_assoc Equal q r = refl
then_assoc Greater q r = refl

module _ {A : Type 0} {R : A → A → Ordering} (o : IsTotalOrder R) where
  pub diff_sym : (x y : A) → Diff R x y → Diff R y x
  diff_sym x y h =
      let go : (p : Ordering) → is_eq p ≡ false → is_eq (ordering_reverse p) ≡ false = elim [ Less ↦ λ e. refl | Equal ↦ λ e. e | Greater ↦ λ e. refl ] in
      rw (o.antisymm y x) (go (R x y) h)

  pub self_equal : (x : A) → R x x ≡ Equal
  self_equal x =
      let go : (p : Ordering) → p ≡ ordering_reverse p → p ≡ Equal = elim [ Less ↦ λ e. cc | Equal ↦ λ e. refl | Greater ↦ λ e. cc ] in
      go (R x x) (o.antisymm x x)

  apart_put : (x : A) (ys : List A) → Each (Diff R x) ys → Apart R ys → Apart R (put R x ys)
  apart_put x [] h g = (tt, tt)
  apart_put x (y ∷ ys) h g =
      let go : (b : Bool) → Apart R (cond b (y ∷ put R x ys) (x ∷ (y ∷ ys))) = elim [ true ↦ (each_put R (Diff R y) x (diff_sym x y h.0) ys g.0, apart_put x ys h.1 g.1) | false ↦ (h, g) ] in
      go (is_gt (R x y))

  apart_sort : (xs : List A) → Apart R xs → Apart R (sort R xs)
  apart_sort [] h = tt
  apart_sort (x ∷ xs) h = apart_put x (sort R xs) (each_sort R (Diff R x) xs h.0) (apart_sort xs h.1)

  both_less : (x : A) → (ys : List A) → Each (Before R x) ys → Each (Diff R x) ys → Each (λ y. R x y ≡ Less) ys
  both_less x [] h g = tt
  both_less x (y ∷ ys) h g =
      let less : (p : Ordering) → is_gt p ≡ false → is_eq p ≡ false → p ≡ Less = elim [ Less ↦ λ e f. refl | Equal ↦ λ e f. cc | Greater ↦ λ e f. cc ] in
      (less (R x y) h.0 g.0, both_less x ys h.1 g.1)

  rising : (xs : List A) → Ascends R xs → Apart R xs → Rising R xs
  rising [] h g = tt
  rising (x ∷ xs) h g = (both_less x xs h.0 g.0, rising xs h.1 g.1)

  pub rising_sort : (xs : List A) → Apart R xs → Rising R (sort R xs)
  rising_sort xs h = rising (sort R xs) (ascends_sort o xs) (apart_sort xs h)

  -- items that differ may be put in either order
  above : (x y : A) → Diff R x y → is_gt (R x y) ≡ false → is_gt (R y x) ≡ true
  above x y d e =
      let go : (p : Ordering) → is_eq p ≡ false → is_gt p ≡ false → is_gt (ordering_reverse p) ≡ true = elim [ Less ↦ λ f g. refl | Equal ↦ λ f g. cc | Greater ↦ λ f g. cc ] in
      rw (o.antisymm y x) (go (R x y) d e)

  pub swap : (x y : A) → Diff R x y → (zs : List A) → put R x (put R y zs) ≡ put R y (put R x zs)
  swap x y d zs =
      let go : (b : Bool) → is_gt (R x y) ≡ b → put R x (put R y zs) ≡ put R y (put R x zs) =
      elim [
        | true ↦ λ e. commute o y x (turned o x y e) e zs
        | false ↦ λ e. sym (commute o x y e (above x y d e) zs)
      ] in
      go (is_gt (R x y)) refl

pub rising_filter : {A : Type 0} (R : A → A → Ordering) (p : A → Bool) (xs : List A) → Rising R xs → Rising R (filter p xs)
rising_filter R p [] h = tt
rising_filter R p (x ∷ xs) h =
    let later = rising_filter R p xs h.1 in
    let go : (b : Bool) → Rising R (cond b (x ∷ filter p xs) (filter p xs)) = elim [ true ↦ (each_filter (λ y. R x y ≡ Less) p xs h.0, later) | false ↦ later ] in
    go (p x)

-- ---- a sort of parts

-- items put one after the other, the last one first
abbrev puts : {A : Type 0} → (A → A → Ordering) → List A → List A → List A
puts K [] zs = zs
puts K (x ∷ xs) zs = put K x (puts K xs zs)

sort_append : {A : Type 0} (K : A → A → Ordering) (xs ys : List A) → sort K (xs ++ ys) ≡ puts K xs (sort K ys)
sort_append K [] ys = refl
sort_append K (x ∷ xs) ys = ap (put K x) (sort_append K xs ys)

module _ {A : Type 0} {K : A → A → Ordering} (o : IsTotalOrder K) where
  put_puts : (x : A) (ys zs : List A) → Each (Diff K x) ys → put K x (puts K ys zs) ≡ puts K ys (put K x zs)
  put_puts x [] zs h = refl
  put_puts x (y ∷ ys) zs h = swap o x y h.0 (puts K ys zs) ∙ ap (put K y) (put_puts x ys zs h.1)

  puts_puts : (xs ys zs : List A) → Each (λ x. Each (Diff K x) ys) xs → puts K xs (puts K ys zs) ≡ puts K ys (puts K xs zs)
  puts_puts [] ys zs h = refl
  puts_puts (x ∷ xs) ys zs h = ap (put K x) (puts_puts xs ys zs h.1) ∙ put_puts x ys (puts K xs zs) h.0

  module _ {B : Type 0} (R : B → B → Ordering) (r : IsTotalOrder R) (F : B → List A) (far : (x y : B) → Diff R x y → Each (λ f. Each (Diff K f) (F y)) (F x)) where
    flat_put : (x : B) (ys : List B) → Each (Diff R x) ys → sort K (flat_map F (put R x ys)) ≡ puts K (F x) (sort K (flat_map F ys))
    flat_put x [] h = sort_append K (F x) []
    flat_put x (y ∷ ys) h =
        let go : (b : Bool) → sort K (flat_map F (cond b (y ∷ put R x ys) (x ∷ (y ∷ ys)))) ≡ puts K (F x) (sort K (flat_map F (y ∷ ys))) =
        elim [
          | true ↦
              sort_append K (F y) (flat_map F (put R x ys)) ∙ ap (puts K (F y)) (flat_put x ys h.1)
              ∙ puts_puts (F y) (F x) (sort K (flat_map F ys)) (far y x (diff_sym r x y h.0))
              ∙ ap (puts K (F x)) (sym (sort_append K (F y) (flat_map F ys)))
          | false ↦ sort_append K (F x) (flat_map F (y ∷ ys))
        ] in
        go (is_gt (R x y))

    -- parts that differ may be sorted in any order
    pub flat_sort : (xs : List B) → Apart R xs → sort K (flat_map F (sort R xs)) ≡ sort K (flat_map F xs)
    flat_sort [] h = refl
    flat_sort (x ∷ xs) h =
        flat_put x (sort R xs) (each_sort R (Diff R x) xs h.0) ∙ ap (puts K (F x)) (flat_sort xs h.1) ∙ sym (sort_append K (F x) (flat_map F xs))
